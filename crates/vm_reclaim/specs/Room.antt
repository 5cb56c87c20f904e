-- How room is made for frames that a command needs at once, and that are not free (ballooning is too slow for that: Waldspurger,
-- OSDI 2002, section 3.3). First the guests give up what they hold above their targets; then targets fall, each time that of the
-- guest whose memory is worth least (min-funding revocation: sections 5.1 and 5.2).
use Rattle.std.specs.Prelude.{ℕ, ◌-◌, List, [], ◌∷◌, Option, Some, None, fold, min, slice_get}
use Rattle.vm_guest.specs.Boundary.{surplus, with_min}
use Rattle.vm_plan.specs.Revocation.{revocation_list}
use Rattle.vm_pool.specs.Changes.{changed, frames_to_start, lacking, taken_at, with_released}
use Rattle.vm_pool.specs.Guests.{Guests, guest_in, of_running}
use Rattle.vm_pool.specs.Pool.{PoolView}
use Rattle.vm_reclaim.specs.declared.room.Raise.{Raise}
use Rattle.vm_tax.specs.Ratio.{Tax}
use Rattle.vm_reclaim.specs.Rows.{rows_of}

-- what each guest in order gives up of its surplus, where so many frames are short
abbrev pub surplus_shares : ℕ → Guests → List ℕ
surplus_shares short [] = []
surplus_shares short (guest ∷ guests) =
    min short (of_running surplus guest) ∷ surplus_shares (short - of_running surplus guest) guests

-- the pool as room is made for a raised minimum: its guest has that minimum already, and a target no less, so that it gives no
-- frame that it lacks itself
abbrev pub raised : Option Raise → PoolView → PoolView
raised None pool = pool
raised (Some raise) pool = changed (λ g. with_min g raise.least) pool raise.position

-- what each guest gives up of its surplus, so that so many frames are free
abbrev pub surplus_counts : Option Raise → ℕ → PoolView → List ℕ
surplus_counts raise needed pool = surplus_shares (needed - pool.free) (raised raise pool).guests

-- the pool once guests gave up what they hold above their targets, as long as frames are short
abbrev pub with_surplus_back : Option Raise → ℕ → PoolView → PoolView
with_surplus_back raise needed pool = with_released (surplus_counts raise needed pool) pool

-- the guests that then lose a page of their target and a frame, once for each, in order, until so many frames are free
abbrev pub revocations_for_room : Tax → Option Raise → ℕ → PoolView → List ℕ
revocations_for_room tax raise needed pool =
    let left = with_surplus_back raise needed pool in
    revocation_list tax (needed - left.free) (rows_of (raised raise left).guests)

-- the pool once so many frames are free
abbrev pub room_made : Tax → Option Raise → ℕ → PoolView → PoolView
room_made tax raise needed pool = fold taken_at (with_surplus_back raise needed pool) (revocations_for_room tax raise needed pool)

-- ---- what is needed

-- the frames that a guest needs to start
abbrev pub needed_to_start : PoolView → ℕ → ℕ
needed_to_start pool position = frames_to_start pool.overhead (slice_get pool.configs position)

-- the frames that a guest lacks for a minimum
abbrev pub lacking_at : PoolView → ℕ → ℕ → ℕ
lacking_at pool position least = lacking least (guest_in pool.guests position)

-- a minimum that is set
abbrev pub raise_to : ℕ → ℕ → Option Raise
raise_to position least = Some (record { position = position; least = least })
