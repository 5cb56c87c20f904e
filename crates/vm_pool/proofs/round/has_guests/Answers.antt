use Rattle.std.proofs.Common.{◌<◌, ◌∙◌, ap, arith, length, refl, sym}
use Rattle.std.proofs.lemmas.List.{get_or_read}
use Rattle.std.specs.Option.{is_some}
use Rattle.vm_pool.specs.declared.slot.Slot.TheVariants.{Away}
use Rattle.vm_pool.specs.Slots.{guest_in}
use Rattle.vm_pool.proofs.RunningLemmas.{is_some-map, none-running, some-running}
use Rattle.vm_pool.proofs.round.has_guests.Goals as goal

pub returns-then-is_some : goal.returns-then-is_some
returns-then-is_some c =
    let slots = c.args.slots.now in
    let i = c.loop-slot.slot-index in
    let there : i < length slots = let test = c.loop-slot-test.true in let long = c.loop-slot.auto.slot-index-end in omega (arith, test, long) in
    let runs = ap is_some (ap guest_in (sym (get_or_read slots i c.slot-item.result there c.slot-item.is Away)) ∙ sym c.guest_of.ensures) ∙ is_some-map _ c.guest_of.result ∙ sym c.is_some.ensures ∙ c.if-is_some.true in
    (λ _. some-running slots i there runs, λ _. refl)

pub returns : goal.returns
returns c =
    let none = none-running c.args.slots.now (λ k below. c.loop-slot.invariant k (let out = c.loop-slot-test.false in omega (arith, below, out))) in
    (λ no. absurd (cc), λ some. absurd (omega (arith, none, some)))
