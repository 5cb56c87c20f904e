use Rattle.std.proofs.Common.{◌≡◌, ◌∙◌, List, None, length, map, slice_get, sym, ap, subst}
use Rattle.std.specs.Option.{IfSome}
use Rattle.std.proofs.lemmas.Bool.{ltb-true, ltb-false}
use Rattle.vm_pool.specs.declared.slot.Slot.{Slot}
use Rattle.vm_pool.specs.Guests.{running}
use Rattle.vm_pool.specs.Pool.{PoolView, guest_at, HasTarget}
use Rattle.vm_pool.specs.Slots.{guest_in}
use Rattle.vm_pool.proofs.PoolLemmas.{target-in}
use Rattle.vm_pool.proofs.SlotLemmas.{guest-slot, no-guest}
use Rattle.vm_pool.proofs.pool.Pool.guest.Goals as goal

pub returns-clause-value : goal.returns-clause-value
returns-clause-value c =
    let i = c.args.position in
    let found = c.in_ok-get.ensures.lookup in
    c.guest_of.ensures
    ∙ sym (guest-slot c.deref.result.now i c.in_ok-get.field-0.now (ltb-true i (length c.deref.result.now) (sym found.0)) found.1)
    ∙ ap (λ (slots : List Slot). running (slice_get (map guest_in slots) i)) c.deref.ensures.value
    ∙ ap (λ (v : PoolView). guest_at v i) c.self.view_is

pub returns-clause-target : goal.returns-clause-target
returns-clause-target c =
    subst (λ (v : PoolView). IfSome (guest_at v c.args.position) HasTarget) c.self.view_is (target-in c.self.inside.slots.items c.args.position c.self.invariant.settled)

pub returns-in_err-get-clause-value : goal.returns-in_err-get-clause-value
returns-in_err-get-clause-value c =
    let i = c.args.position in
    let none : None ≡ guest_at c.args.self.now i =
    sym (no-guest c.deref.result.now i (ltb-false i (length c.deref.result.now) (sym c.in_err-get.ensures.lookup.0)))
    ∙ ap (λ (slots : List Slot). running (slice_get (map guest_in slots) i)) c.deref.ensures.value
    ∙ ap (λ (v : PoolView). guest_at v i) c.self.view_is in
    rw c.from_residual.ensures none

pub returns-in_err-get-clause-target : goal.returns-in_err-get-clause-target
returns-in_err-get-clause-target c =
    subst (λ (v : PoolView). IfSome (guest_at v c.args.position) HasTarget) c.self.view_is (target-in c.self.inside.slots.items c.args.position c.self.invariant.settled)
