-- What is true of a command that was read, and of one that was admitted.
use Rattle.std.specs.Prelude.{◌≡◌, ℕ, ◌^◌, ◌<◌, ◌≤◌, ⊤, None, IfSome, IsSome, length}
use Rattle.vm_commands.specs.declared.command.Command.{Command}
use Rattle.vm_commands.specs.declared.command.Command.TheVariants.{Start, Destroy, SetMemory, SetMinimum, SetShares, ShowStatistics}
use Rattle.vm_pool.specs.Pool.{PoolView, guest_at}
use Rattle.vm_reclaim.specs.Making.{CanRaise, HasRoomToRaise, HasRoomToStart}
use Rattle.vm_reclaim.specs.Room.{raise_to}
use Rattle.vm_tax.specs.Ratio.{Tax}

-- its number is one that a line can have
abbrev pub IsInRange : Command → Type 0
IsInRange (SetMinimum domain least) = 1 ≤ least
IsInRange (SetShares domain shares) = (1 ≤ shares) × (shares ≤ 1000000)
IsInRange (Start domain) = ⊤
IsInRange (Destroy domain) = ⊤
IsInRange (SetMemory domain cap) = ⊤
IsInRange (ShowStatistics domain) = ⊤

-- a command that was admitted can be done
abbrev pub CanObey : Tax → PoolView → ℕ → Command → Type 0
CanObey tax pool position (Start domain) =
    (position < length pool.guests) × ((guest_at pool position ≡ None) × HasRoomToStart tax pool position)
CanObey tax pool position (Destroy domain) = IsSome (guest_at pool position)
CanObey tax pool position (SetMemory domain cap) =
    (position < length pool.guests) × ((cap < 2 ^ 32) × (IfSome (guest_at pool position) (λ g. g.allotment.min ≤ cap)
    × IfSome (guest_at pool position) (λ g. cap ≤ g.config.size)))
CanObey tax pool position (SetMinimum domain least) =
    (least < 2 ^ 32) × (CanRaise (raise_to position least) pool × HasRoomToRaise tax pool position least)
CanObey tax pool position (SetShares domain shares) = (position < length pool.guests) × ((1 ≤ shares) × (shares ≤ 1000000))
CanObey tax pool position (ShowStatistics domain) = ⊤
