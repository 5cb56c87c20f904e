-- A pool in which the target of a guest falls.
use Rattle.std.proofs.Common.{◌≡◌, ℕ, ◌<◌, IfSome, length, replicate, fold, get_or, refl, sym, ap, ◌∙◌, subst}
use Rattle.std.specs.Option.{option_map}
use Rattle.vm_guest.specs.Boundary.{lowered, revoked}
use Rattle.vm_pool.specs.declared.pool.Pool.TheInside.{Inside}
use Rattle.vm_pool.specs.declared.slot.Slot.{Slot}
use Rattle.vm_pool.specs.CanMove.{CanRevoke}
use Rattle.vm_pool.specs.Changes.{changed}
use Rattle.vm_pool.specs.Pool.{PoolView}
use Rattle.vm_pool.specs.PoolFields.{pool_of, IsPool}
use Rattle.vm_pool.specs.Slots.{guest_in, slot_changed}
use Rattle.vm_pool.proofs.PoolLemmas.{guest-here, moved, pool-changed, pool-moved, view-changed, within-slots, MovesAt}
use Rattle.vm_pool.proofs.RevokeLemmas.{can-lower, revocations-together, revokes-within, HasAbove}
use Rattle.vm_pool.proofs.SlotLemmas.{keeps-lowered}

-- the guest at the position can lose so many pages of its target, one after the other
pub record CanLose (count : ℕ) (p : Inside) (v : PoolView) (i : ℕ) : Type 0 where
  pub good : IsPool p
  pub is : pool_of p ≡ v
  pub some : 0 < count
  pub can : CanRevoke v (replicate count i)

module _ (count : ℕ) (p : Inside) (v : PoolView) (i : ℕ) (loses : CanLose count p v i) where
  pub lower-there : i < length p.slots.items
  lower-there = within-slots p v i loses.is (revokes-within count v i loses.some loses.can)

  module _ (was : Slot) (at : was ≡ get_or p.slots.items i was) where
    pub can-lower_there : IfSome (guest_in was) (HasAbove count)
    can-lower_there = subst (λ guest. IfSome guest (HasAbove count)) (guest-here p v i was loses.is lower-there at) (can-lower count v i loses.some loses.can)

    module _ (slot : Slot) (is : slot ≡ slot_changed (lowered count) was) where
      moves-there : MovesAt p i was slot p.machine p.machine p.aside.items (option_map (lowered count) (guest_in was))
      moves-there = pool-changed p i was slot (lowered count) (keeps-lowered count) loses.good lower-there at is

      pub pool-lowered : IsPool (moved p i slot p.machine p.aside)
      pool-lowered = pool-moved p i was slot p.machine p.machine p.aside _ loses.good moves-there refl

      pub view-lowered : pool_of (moved p i slot p.machine p.aside) ≡ fold (changed revoked) v (replicate count i)
      view-lowered =
          view-changed p i was slot (lowered count) moves-there
          ∙ (ap (λ w. changed (lowered count) w i) loses.is ∙ sym (revocations-together count v i))
