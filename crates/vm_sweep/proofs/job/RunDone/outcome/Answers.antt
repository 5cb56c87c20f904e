use Rattle.std.proofs.Common.{◌≡◌, Bor, None, Option, Some, IfSome, option_copied, subst, sym}
use Rattle.vm_sweep.specs.Combinations.{varied}
use Rattle.vm_sweep.specs.Orders.{Order}
use Rattle.vm_sweep.specs.Outcomes.{Tells}
use Rattle.vm_sweep.proofs.job.RunDone.outcome.Goals as goal

-- what is true of the value that is there is true of the one that is lent
lent : {A : Type 0} (P : A → Type 0) (view : Option (Bor A)) (kept : Option A) → option_copied view ≡ kept → IfSome kept P → IfSome view (λ x. P x.now)
lent P None kept is there = tt
lent {A = A} P (Some x) kept is there = subst (λ (o : Option A). IfSome o P) (sym is) there

pub returns : goal.returns
returns c =
    lent (Tells c.args.self.now.detail c.args.self.now.variant (varied c.args.self.now.variant c.args.self.now.base)) c.as_ref.result _ c.as_ref.ensures.value
    (subst (λ (o : Order). IfSome c.self.inside.outcome (Tells o.detail o.variant (varied o.variant o.base))) c.self.view_is c.self.invariant)
