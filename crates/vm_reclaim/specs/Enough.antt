-- Whether the frames of a machine cover what its guests are promised: each has its minimum and its overhead (admission control:
-- Waldspurger, OSDI 2002, section 6.2).
use Rattle.std.specs.Prelude.{ℕ, ◌+◌, ◌-◌, ◌≤◌}
use Rattle.vm_guest.specs.Record.{GuestRecord}
use Rattle.vm_pool.specs.Guests.{guest_in, of_running, total}
use Rattle.vm_pool.specs.Pool.{PoolView}
use Rattle.vm_reclaim.specs.Room.{needed_to_start}

-- the frames that a guest is promised
abbrev pub promised_to : ℕ → GuestRecord → ℕ
promised_to overhead g = g.allotment.min + overhead

-- the frames that the running guests are promised together
abbrev pub promised : PoolView → ℕ
promised pool = total (promised_to pool.overhead) pool.guests

-- the minimum of the guest at a position, if one runs there
abbrev pub min_at : PoolView → ℕ → ℕ
min_at pool position = of_running (λ g. g.allotment.min) (guest_in pool.guests position)

-- the frames cover what is promised, and what the stopped guest at a position is promised once it runs
abbrev pub CoversStart : PoolView → ℕ → Type 0
CoversStart pool position = promised pool + needed_to_start pool position ≤ pool.frames

-- the frames cover what is promised once the guest at a position has another minimum
abbrev pub CoversMinimum : PoolView → ℕ → ℕ → Type 0
CoversMinimum pool position least = promised pool - min_at pool position + least ≤ pool.frames
