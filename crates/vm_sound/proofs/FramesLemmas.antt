-- Frames add up after each call, and after each list of moves that can be done.
use Rattle.std.proofs.Common.{◌≡◌, ◌∙◌, ℕ, suc, ◌+◌, ◌*◌, ◌<◌, ◌≤◌, Bool, List, [], ◌∷◌, Option, Some, None, IsSome, fold, length, refl, ap, arith}
use Rattle.std.specs.Prelude.{slice_get}
use Rattle.std.specs.Option.{option_map}
use Rattle.vm_guest.specs.Boundary.{ordered, revoked, serviced, surplus, with_cap, with_shares}
use Rattle.vm_guest.specs.Config.{GuestConfig}
use Rattle.vm_guest.specs.Epoch.{epoch}
use Rattle.vm_guest.specs.Good.{IsGood}
use Rattle.vm_guest.specs.Record.{GuestRecord}
use Rattle.vm_guest.proofs.EpochLemmas.{epoch-held, serviced-held}
use Rattle.vm_pool.specs.Changes.{after_epoch, all_changed, changed, frames_to_grant, frames_to_start, granted_at, lacking, released_at, started_at, stopped_at, surplus_of, taken_at, blocked_above, with_min_at, with_orders, with_released, with_spares_back, with_started, AreReleasable}
use Rattle.vm_pool.specs.CanMove.{CanGrant}
use Rattle.vm_pool.specs.Guests.{Guests, each_released, of_running, sum_of}
use Rattle.vm_pool.specs.Pool.{PoolView, guest_at, running_count, total_held, Conserves}
use Rattle.vm_pool.proofs.ConservesLemmas.{conserves-all_changed, conserves-changed, conserves-granted as granted-one, conserves-released as released-one, conserves-spares as spares-all, conserves-started as started-one, conserves-stopped as stopped-one, conserves-with_min as with_min-one}
use Rattle.vm_pool.proofs.MoveLemmas.{held-released}
use Rattle.vm_sound.specs.Moves.{CanTake, HasFrameAt}
use Rattle.vm_sound.specs.Sound.{HasSameSetup, IsSoundPool}
use Rattle.vm_sound.proofs.PlaceLemmas.{each-in, in-changed, within-here}

-- ---- each guest

pub conserves-serviced : (p : PoolView) → Conserves p → Conserves (all_changed serviced p)
conserves-serviced p all = conserves-all_changed serviced p serviced-held all

pub conserves-spares : (p : PoolView) → Conserves p → Conserves (with_spares_back p)
conserves-spares p all = spares-all p all

pub conserves-orders : (blocks : Bool) (p : PoolView) → Conserves p → Conserves (with_orders blocks p)
conserves-orders blocks p all = conserves-all_changed (λ g. ordered g (blocked_above blocks g)) p (λ g. refl) all

pub conserves-epoch : (p : PoolView) → Conserves p → Conserves (after_epoch p)
conserves-epoch p all = conserves-all_changed epoch p epoch-held all

held-each_released : (counts : List ℕ) (guests : Guests) → AreReleasable counts guests → length counts ≡ length guests
    → total_held (each_released counts guests) + sum_of counts ≡ total_held guests
held-each_released [] [] few same = refl
held-each_released [] (guest ∷ guests) few same = absurd (omega (arith, same))
held-each_released (count ∷ counts) [] few same = absurd (omega (arith, same))
held-each_released (count ∷ counts) (guest ∷ guests) few same =
    let first = held-released count guest (few 0 (omega arith)) in
    let rest = held-each_released counts guests (λ i within. few (suc i) (omega (arith, within))) (omega (arith, same)) in
    omega (arith, first, rest)

runs-each_released : (counts : List ℕ) (guests : Guests) → running_count (each_released counts guests) ≡ running_count guests
runs-each_released [] guests = refl
runs-each_released (count ∷ counts) [] = refl
runs-each_released (count ∷ counts) (None ∷ guests) = ap (λ n. 0 + n) (runs-each_released counts guests)
runs-each_released (count ∷ counts) (Some g ∷ guests) = ap (λ n. 1 + n) (runs-each_released counts guests)

pub conserves-released : (counts : List ℕ) (p : PoolView) → AreReleasable counts p.guests → length counts ≡ length p.guests → Conserves p → Conserves (with_released counts p)
conserves-released counts p few same all =
    let held = held-each_released counts p.guests few same in
    let aside = ap (λ n. p.overhead * n) (runs-each_released counts p.guests) in
    omega (arith, held, aside, all)

-- ---- the guest at a position

pub conserves-released_at : (count : ℕ) (p : PoolView) (k : ℕ) → count ≤ surplus_of (guest_at p k) → Conserves p → Conserves (released_at count p k)
conserves-released_at count p k few all = released-one count p k few all

pub conserves-revoked : (p : PoolView) (k : ℕ) → Conserves p → Conserves (changed revoked p k)
conserves-revoked p k all = conserves-changed revoked p k (λ g. refl) all

-- a guest that lost a page of its target holds a frame above it
frame-above : (p : PoolView) (k : ℕ) → HasFrameAt p k → 1 ≤ surplus_of (guest_at (changed revoked p k) k)
frame-above p k frame =
    let same = ap (of_running surplus) (in-changed revoked p.guests k ∙ ap (option_map revoked) frame.here) in
    let above = frame.above in
    let held = frame.held in
    omega (arith, same, above, held)

pub conserves-taken : (p : PoolView) (k : ℕ) → HasFrameAt p k → Conserves p → Conserves (taken_at p k)
conserves-taken p k frame all = released-one 1 (changed revoked p k) k (frame-above p k frame) (conserves-revoked p k all)

pub conserves-granted : (p : PoolView) (k : ℕ) → frames_to_grant (guest_at p k) ≤ p.free → Conserves p → Conserves (granted_at p k)
conserves-granted p k enough all = granted-one p k enough all

pub conserves-with_cap : (cap : ℕ) (p : PoolView) (k : ℕ) → Conserves p → Conserves (changed (λ g. with_cap g cap) p k)
conserves-with_cap cap p k all = conserves-changed (λ g. with_cap g cap) p k (λ g. refl) all

pub conserves-with_shares : (shares : ℕ) (p : PoolView) (k : ℕ) → Conserves p → Conserves (changed (λ g. with_shares g shares) p k)
conserves-with_shares shares p k all = conserves-changed (λ g. with_shares g shares) p k (λ g. refl) all

pub conserves-with_min : (least : ℕ) (p : PoolView) (k : ℕ) → lacking least (guest_at p k) ≤ p.free → Conserves p → Conserves (with_min_at least p k)
conserves-with_min least p k enough all = with_min-one least p k enough all

pub conserves-stopped : (p : PoolView) (k : ℕ) → IsSome (guest_at p k) → Conserves p → Conserves (stopped_at p k)
conserves-stopped p k runs all = stopped-one p k runs all

pub conserves-started : (p : PoolView) (k : ℕ) → k < length p.guests → guest_at p k ≡ None → frames_to_start p.overhead (slice_get p.configs k) ≤ p.free → Conserves p
    → Conserves (started_at p k)
conserves-started p k there none enough all = started-one p k there none enough all

-- ---- lists of moves

pub conserves-all_revoked : (moves : List ℕ) (p : PoolView) → Conserves p → Conserves (fold (changed revoked) p moves)
conserves-all_revoked [] p all = all
conserves-all_revoked (k ∷ moves) p all = conserves-all_revoked moves (changed revoked p k) (conserves-revoked p k all)

pub conserves-all_taken : (moves : List ℕ) (p : PoolView) → CanTake p moves → Conserves p → Conserves (fold taken_at p moves)
conserves-all_taken [] p can all = all
conserves-all_taken (k ∷ moves) p can all = conserves-all_taken moves (taken_at p k) can.1 (conserves-taken p k can.0 all)

pub conserves-all_granted : (moves : List ℕ) (p : PoolView) → CanGrant p moves → Conserves p → Conserves (fold granted_at p moves)
conserves-all_granted [] p can all = all
conserves-all_granted (k ∷ moves) p can all =
    let first = can.0 in
    conserves-all_granted moves (granted_at p k) can.1 (conserves-granted p k first.enough all)

-- ---- how a pool is set up

pub setup-started : (p : PoolView) (k : ℕ) → HasSameSetup p (started_at p k)
setup-started p k = go (slice_get p.configs k)
  where
    go : (config : Option GuestConfig) → HasSameSetup p (with_started p k config)
    go None = record { frames = refl; overhead = refl; configs = refl }
    go (Some config) = record { frames = refl; overhead = refl; configs = refl }

-- moves, one after the other, that each keep how the pool is set up
setup-fold : (step : PoolView → ℕ → PoolView) → ((p : PoolView) (k : ℕ) → HasSameSetup p (step p k)) → (moves : List ℕ) (p : PoolView) → HasSameSetup p (fold step p moves)
setup-fold step one [] p = record { frames = refl; overhead = refl; configs = refl }
setup-fold step one (k ∷ moves) p =
    let first = one p k in
    let rest = setup-fold step one moves (step p k) in
    record { frames = rest.frames ∙ first.frames; overhead = rest.overhead ∙ first.overhead; configs = rest.configs ∙ first.configs }

pub setup-all_revoked : (moves : List ℕ) (p : PoolView) → HasSameSetup p (fold (changed revoked) p moves)
setup-all_revoked moves p = setup-fold (changed revoked) (λ p k. record { frames = refl; overhead = refl; configs = refl }) moves p

pub setup-all_taken : (moves : List ℕ) (p : PoolView) → HasSameSetup p (fold taken_at p moves)
setup-all_taken moves p = setup-fold taken_at (λ p k. record { frames = refl; overhead = refl; configs = refl }) moves p

pub setup-all_granted : (moves : List ℕ) (p : PoolView) → HasSameSetup p (fold granted_at p moves)
setup-all_granted moves p = setup-fold granted_at (λ p k. record { frames = refl; overhead = refl; configs = refl }) moves p

-- ---- a guest of a sound pool

-- has its target of frames, so that one can be taken where it has more than its minimum
pub frame-at : (p : PoolView) (k : ℕ) (g : GuestRecord) → IsSoundPool p → guest_at p k ≡ Some g → g.allotment.min < g.allotment.target → HasFrameAt p k
frame-at p k g sound here above =
    let good = each-in IsGood p.guests k g sound.good here in
    record { guest = g; here = here; within = within-here p.guests k g here; above = above; held = good.has_target }
