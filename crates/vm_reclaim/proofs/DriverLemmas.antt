-- Which guests have drivers of their own stays as it is while targets change and frames are given up.
use Rattle.std.proofs.Common.{◌≡◌, ◌∙◌, ℕ, zero, suc, Bool, true, false, List, [], ◌∷◌, Some, None, fold, refl, ap, if◌then◌else◌}
use Rattle.vm_guest.specs.Boundary.{granted, is_full, released, revoked, with_grant, with_spare, without_one}
use Rattle.vm_guest.specs.Memory.{has_spare}
use Rattle.vm_guest.specs.Record.{GuestRecord}
use Rattle.vm_guest.specs.Touch.{evicted}
use Rattle.vm_plan.specs.declared.state.State.{State}
use Rattle.vm_pool.specs.Changes.{changed, granted_at}
use Rattle.vm_pool.specs.Guests.{Guests, each_released, guest_changed}
use Rattle.vm_pool.specs.Pool.{PoolView}
use Rattle.vm_reclaim.specs.Boundary.{pool_reclaimed, pool_settled}
use Rattle.vm_reclaim.specs.Planning.{drivers_of, own_driver_in}
use Rattle.vm_reclaim.specs.Policy.{Policy}
use Rattle.vm_reclaim.specs.Rebalance.{has_own_driver}
use Rattle.vm_reclaim.specs.Reclaim.{counts_of, grants_in, pool_revoked, revocations_in}

-- ---- a guest

pub driver-revoked : (g : GuestRecord) → has_own_driver (revoked g) ≡ has_own_driver g
unfolding has_own_driver
driver-revoked g = refl

pub driver-with_grant : (g : GuestRecord) → has_own_driver (with_grant g) ≡ has_own_driver g
unfolding has_own_driver
driver-with_grant g = refl

driver-grant : (g : GuestRecord) (full : Bool) → has_own_driver (if full then with_spare (with_grant g) else with_grant g) ≡ has_own_driver g
unfolding has_own_driver
driver-grant g true = refl
driver-grant g false = refl

driver-granted : (g : GuestRecord) → has_own_driver (granted g) ≡ has_own_driver g
driver-granted g = driver-grant g (is_full g)

driver-frame : (g : GuestRecord) (spare : Bool) → has_own_driver (if spare then without_one g else without_one (evicted g)) ≡ has_own_driver g
unfolding has_own_driver
driver-frame g true = refl
driver-frame g false = refl

driver-released : (count : ℕ) (g : GuestRecord) → has_own_driver (released count g) ≡ has_own_driver g
driver-released zero g = refl
driver-released (suc count) g = driver-frame (released count g) (has_spare (released count g).memory) ∙ driver-released count g

-- ---- all guests

drivers-changed : (change : GuestRecord → GuestRecord) → ((g : GuestRecord) → has_own_driver (change g) ≡ has_own_driver g) → (guests : Guests) (k : ℕ)
    → drivers_of (guest_changed change guests k) ≡ drivers_of guests
drivers-changed change kept [] k = refl
drivers-changed change kept (None ∷ guests) zero = refl
drivers-changed change kept (Some g ∷ guests) zero = ap (λ own. own ∷ drivers_of guests) (kept g)
drivers-changed change kept (guest ∷ guests) (suc k) = ap (λ later. own_driver_in guest ∷ later) (drivers-changed change kept guests k)

drivers-fallen : (pool : PoolView) (moves : List ℕ) → drivers_of (fold (changed revoked) pool moves).guests ≡ drivers_of pool.guests
drivers-fallen pool [] = refl
drivers-fallen pool (position ∷ moves) = drivers-fallen (changed revoked pool position) moves ∙ drivers-changed revoked driver-revoked pool.guests position

drivers-risen : (pool : PoolView) (moves : List ℕ) → drivers_of (fold granted_at pool moves).guests ≡ drivers_of pool.guests
drivers-risen pool [] = refl
drivers-risen pool (position ∷ moves) = drivers-risen (granted_at pool position) moves ∙ drivers-changed granted driver-granted pool.guests position

drivers-released : (counts : List ℕ) (guests : Guests) → drivers_of (each_released counts guests) ≡ drivers_of guests
drivers-released [] guests = refl
drivers-released (count ∷ counts) [] = refl
drivers-released (count ∷ counts) (None ∷ guests) = ap (λ later. true ∷ later) (drivers-released counts guests)
drivers-released (count ∷ counts) (Some g ∷ guests) = λ i. driver-released count g i ∷ drivers-released counts guests i

-- once targets rose
pub drivers-settled : (policy : Policy) (state : State) (pool : PoolView) → drivers_of (pool_settled policy state pool).guests ≡ drivers_of pool.guests
drivers-settled policy state pool =
    let fallen = pool_revoked policy state pool in
    let reclaimed = pool_reclaimed policy state pool in
    drivers-risen reclaimed (grants_in policy state reclaimed)
    ∙ (drivers-released (counts_of state policy.page_rate fallen.guests) fallen.guests ∙ drivers-fallen pool (revocations_in policy state pool))
