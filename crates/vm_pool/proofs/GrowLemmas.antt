-- A pool in which a guest is granted frames.
use Rattle.std.proofs.Common.{◌≡◌, ℕ, ◌+◌, ◌<◌, ◌≤◌, IfSome, length, replicate, fold, get_or, refl, sym, ap, ◌∙◌, arith, subst}
use Rattle.std.specs.Option.{option_map}
use Rattle.std.specs.FinSet as sets
use Rattle.vm_frames.specs.Machine.{MachineView}
use Rattle.vm_pool.specs.declared.pool.Pool.TheInside.{Inside}
use Rattle.vm_pool.specs.declared.slot.Slot.{Slot}
use Rattle.vm_pool.specs.Changes.{granted_at, spent}
use Rattle.vm_pool.specs.CanMove.{CanGrant}
use Rattle.vm_pool.specs.Growth.{frames_to_grow, grown}
use Rattle.vm_pool.specs.Moves.{Moves}
use Rattle.vm_pool.specs.Pool.{PoolView, guest_at, HasTarget}
use Rattle.vm_pool.specs.PoolFields.{pool_of, IsPool}
use Rattle.vm_pool.specs.Slots.{guest_in}
use Rattle.vm_pool.proofs.GrantLemmas.{can-grow, can-within, grants-together, held-grown, IsGrowable}
use Rattle.vm_pool.proofs.PoolLemmas.{guest_at-slot, moved, pool-moved, pool-spent, target-in, view-spent, within-slots, MovesAt}

-- the guest at the position can be granted so many frames, one after the other
pub record AsksFor (count : ℕ) (p : Inside) (v : PoolView) (i : ℕ) : Type 0 where
  pub good : IsPool p
  pub is : pool_of p ≡ v
  pub some : 0 < count
  pub can : CanGrant v (replicate count i)

module _ (count : ℕ) (p : Inside) (v : PoolView) (i : ℕ) (asks : AsksFor count p v i) where
  pub slot-there : i < length p.slots.items
  slot-there = within-slots p v i asks.is (can-within count v i asks.some asks.can)

  has : IfSome (guest_at (pool_of p) i) HasTarget
  has = target-in p.slots.items i asks.good.settled

  module _ (was : Slot) (at : was ≡ get_or p.slots.items i was) where
    pub can-grow_there : IsGrowable count (pool_of p).free (guest_in was)
    can-grow_there =
        subst (IsGrowable count (pool_of p).free) (guest_at-slot p i was slot-there at)
        (can-grow count (pool_of p) i asks.some has (subst (λ w. CanGrant w (replicate count i)) (sym asks.is) asks.can))

    pub frames-there : sets.len p.machine.out + frames_to_grow count (guest_in was) ≤ p.machine.total
    frames-there =
        let within = asks.good.within in
        let enough = can-grow_there.enough in
        omega (arith, within, enough)

    module _ (slot : Slot) (after : MachineView) (moves : Moves (option_map (grown count) (guest_in was)) was slot p.machine after) where
      moves-there : MovesAt p i was slot after after p.aside.items (option_map (grown count) (guest_in was))
      moves-there =
          pool-spent p i was slot after (grown count) (frames_to_grow count (guest_in was)) asks.good slot-there at moves (held-grown count (guest_in was)) can-grow_there.enough

      pub pool-grown : IsPool (moved p i slot after p.aside)
      pool-grown = pool-moved p i was slot after after p.aside _ asks.good moves-there refl

      pub view-grown : pool_of (moved p i slot after p.aside) ≡ fold granted_at v (replicate count i)
      view-grown =
          view-spent p i was slot after (grown count) (frames_to_grow count (guest_in was)) moves-there (held-grown count (guest_in was))
          ∙ (ap (λ g. spent (grown count) (frames_to_grow count g) (pool_of p) i) (sym (guest_at-slot p i was slot-there at))
          ∙ (sym (grants-together count (pool_of p) i has) ∙ ap (λ w. fold granted_at w (replicate count i)) asks.is))
