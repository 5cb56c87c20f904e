use Rattle.std.proofs.Common.{◌≡◌, ◌<◌, Bool, true, false, cond, Some, None, arith}
use Rattle.std.proofs.lemmas.Bool.{lt-ltb}
use Rattle.vm_plan.proofs.row.PlanRow.revocable_price.Goals as goal

-- what passes the test is offered
offered : {A : Type 0} (a b : A) (test : Bool) → a ≡ b → test ≡ true → Some a ≡ cond test (Some b) None
offered a b true e h = λ i. Some (e i)
offered a b false e h = absurd cc

pub returns-then-self-clause-ratio : goal.returns-then-self-clause-ratio
returns-then-self-clause-ratio c =
    let above : c.args.self.now.min < c.args.self.now.target = omega arith in
    offered _ _ _ (assumption) (lt-ltb c.args.self.now.min c.args.self.now.target above)
