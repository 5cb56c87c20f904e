-- Room is made by rows.
use Rattle.std.specs.Prelude.{◌≡◌, ℕ, ◌-◌, ◌<◌, ◌≤◌, ⊤, List, [], ◌∷◌, Option, Some, None, IfSome, IsSome, length, max, min}
use Rattle.vm_plan.specs.Row.{Row}
use Rattle.vm_pool.specs.Changes.{lacking}
use Rattle.vm_pool.specs.Pool.{PoolView, guest_at}
use Rattle.vm_tax.specs.Ratio.{Tax}
use Rattle.vm_reclaim.specs.Room.{lacking_at, needed_to_start, raise_to}
use Rattle.vm_reclaim.specs.Room.{room_made}
use Rattle.vm_reclaim.specs.declared.room.Raise.{Raise}

-- a row with a raised minimum
abbrev pub raised_row : ℕ → Row → Row
raised_row least row = record row { min = least; target = max row.target least }

-- what each guest in order gives up of what it holds above its target
abbrev pub shares_of : ℕ → List Row → List ℕ
shares_of short [] = []
shares_of short (row ∷ rows) = min short (row.held - row.target) ∷ shares_of (short - (row.held - row.target)) rows

-- a guest runs whose minimum may be raised so far
pub record IsRaisable (raise : Raise) (pool : PoolView) : Type 0 where
  pub within : raise.position < length pool.guests
  pub from : 1 ≤ raise.least
  pub runs : IsSome (guest_at pool raise.position)
  pub to : IfSome (guest_at pool raise.position) (λ g. raise.least ≤ g.allotment.cap)

abbrev pub CanRaise : Option Raise → PoolView → Type 0
CanRaise None pool = ⊤
CanRaise (Some raise) pool = IsRaisable raise pool

-- for a raised minimum so many frames are needed as the guest lacks
abbrev pub IsNeededFor : Option Raise → ℕ → PoolView → Type 0
IsNeededFor None needed pool = ⊤
IsNeededFor (Some raise) needed pool = needed ≡ lacking raise.least (guest_at pool raise.position)

-- once room is made, there is enough for a guest to start
abbrev pub HasRoomToStart : Tax → PoolView → ℕ → Type 0
HasRoomToStart tax pool position =
    needed_to_start pool position ≤ (room_made tax None (needed_to_start pool position) pool).free

-- once room is made, there is what a guest lacks for a minimum
abbrev pub HasRoomToRaise : Tax → PoolView → ℕ → ℕ → Type 0
HasRoomToRaise tax pool position least =
    let made = room_made tax (raise_to position least) (lacking_at pool position least) pool in
    lacking_at made position least ≤ made.free
