use Rattle.std.proofs.Common.{◌≡◌, Bool, true, false, Some, Option, None, IsSome, if◌then◌else◌, refl, subst, sym, ap, ◌∙◌}
use Rattle.std.proofs.lemmas.Bool.{eq-eqb, ne_eqb}
use Rattle.vm_guest.specs.declared.guest.Guest.TheInside.{Inside}
use Rattle.vm_guest.specs.Boundary.{granted, is_full, with_grant, with_spare}
use Rattle.vm_guest.specs.Memory.{Memory}
use Rattle.vm_guest.specs.Parts.{record_of}
use Rattle.vm_guest.specs.Record.{GuestRecord}
use Rattle.vm_guest.proofs.guest.Guest.grant.Goals as goal
use Rattle.vm_guest.proofs.guest.Guest.grant.Goals.{in-Some, in_default}

none-some : {A : Type 0} (found : Option A) → ((x : A) → found ≡ Some x → ⊥) → IsSome found → ⊥
none-some None none some = let no : false ≡ true = some in absurd (cc)
none-some (Some x) none some = none x refl

granted-if : (g : GuestRecord) (full : Bool) → is_full g ≡ full → granted g ≡ (if full then with_spare (with_grant g) else with_grant g)
granted-if g full is = ap (λ b. if b then with_spare (with_grant g) else with_grant g) is

pub returns-clause-record : goal.returns-clause-record
returns-clause-record c =
    let g = record_of c.self.inside.parts in
    let full = rw (← c.self.view_is) at c.requires.full in
    rw (← c.self.view_is) (elim c.match-frame.branch [
      | in-Some w ↦
          let same : g.memory.held ≡ g.allotment.target = full.0 (subst IsSome (sym w.in-Some.is) refl) in
          ap {B = GuestRecord} (λ (i : Inside). with_grant (record_of i.parts)) w.self-inside-is
          ∙ ap {B = GuestRecord} (λ (m : Memory). with_grant (record g { memory = m })) w.add_spare.ensures.memory
          ∙ sym (granted-if g true (eq-eqb g.memory.held g.allotment.target same))
      | in_default w ↦
          let differs : g.memory.held ≡ g.allotment.target → ⊥ = λ same. none-some c.args.frame w.in_default.not-Some (full.1 same) in
          ap {B = GuestRecord} (λ (i : Inside). with_grant (record_of i.parts)) w.self-inside-is
          ∙ sym (granted-if g false (ne_eqb g.memory.held g.allotment.target differs))
    ])
