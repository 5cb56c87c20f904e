-- A guest that is granted many frames at once: for private contracts alone.
use Rattle.std.specs.Prelude.{ℕ, ◌+◌, ◌-◌, Option, max}
use Rattle.vm_guest.specs.Boundary.{with_frames, with_target_raised}
use Rattle.vm_guest.specs.Record.{GuestRecord}
use Rattle.vm_pool.specs.Changes.{spent}
use Rattle.vm_pool.specs.Guests.{of_running}
use Rattle.vm_pool.specs.Pool.{PoolView, guest_at}

-- the target rises by so many frames, and the guest has at least that many
abbrev pub grown : ℕ → GuestRecord → GuestRecord
grown count g = with_frames (with_target_raised count g) (max g.memory.held (g.allotment.target + count))

-- how many frames a guest lacks for that
abbrev pub frames_to_grow : ℕ → Option GuestRecord → ℕ
frames_to_grow count guest = of_running (λ g. g.allotment.target + count - g.memory.held) guest

abbrev pub grown_at : ℕ → PoolView → ℕ → PoolView
grown_at count p position = spent (grown count) (frames_to_grow count (guest_at p position)) p position
