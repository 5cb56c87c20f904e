-- Moves that a plan tells can be done.
use Rattle.std.proofs.Common.{◌≡◌, ℕ, zero, suc, ◌<◌, IfSome, List, [], ◌∷◌, Option, Some, None, length, sym, refl, subst, arith}
use Rattle.std.specs.Option.{option_map}
use Rattle.std.proofs.lemmas.Option.{none-some}
use Rattle.vm_guest.specs.Boundary.{revoked}
use Rattle.vm_guest.specs.Record.{GuestRecord}
use Rattle.vm_pool.specs.CanMove.{CanRevoke}
use Rattle.vm_pool.specs.Changes.{changed}
use Rattle.vm_pool.specs.Guests.{Guests, guest_changed, guest_in}
use Rattle.vm_pool.specs.Pool.{PoolView}
use Rattle.vm_tax.specs.Ratio.{Tax}
use Rattle.vm_reclaim.specs.Fairness.{TakesFromCheapest}

-- where a guest runs, there is a position
pub within_here : (guests : Guests) (k : ℕ) (g : GuestRecord) → guest_in guests k ≡ Some g → k < length guests
within_here [] k g here = absurd (none-some g here)
within_here (guest ∷ guests) zero g here = omega arith
within_here (guest ∷ guests) (suc k) g here = let rest = within_here guests k g here in omega (arith, rest)

-- the guest that is changed
pub changed_here : (change : GuestRecord → GuestRecord) (guests : Guests) (k : ℕ) → guest_in (guest_changed change guests k) k ≡ option_map change (guest_in guests k)
changed_here change [] k = refl
changed_here change (None ∷ guests) zero = refl
changed_here change (Some g ∷ guests) zero = refl
changed_here change (guest ∷ guests) (suc k) = changed_here change guests k

pub can_revoke : (tax : Tax) (pool : PoolView) (moves : List ℕ) → TakesFromCheapest tax (changed revoked) pool moves → CanRevoke pool moves
can_revoke tax pool [] takes = tt
can_revoke tax pool (position ∷ moves) takes =
    let first = takes.0 in (
      record {
        within = within_here pool.guests position first.guest first.here;
        above = subst (λ (o : Option GuestRecord). IfSome o (λ g. g.allotment.min < g.allotment.target)) (sym first.here) first.above_minimum;
      },
      can_revoke tax (changed revoked pool position) moves takes.1,
    )
