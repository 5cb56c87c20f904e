-- What a configuration text has at most.
use Rattle.std.specs.Prelude.{ℕ, Bool, List, [], ◌∷◌, length, max, nat_lt, Option, Some, None, if◌then◌else◌}
use Rattle.std.specs.List.{list_any}
use Rattle.vm_recorded.specs.declared.limit.Limit.{Limit}
use Rattle.vm_recorded.specs.declared.limit.Limit.TheVariants.{Epochs, Guests, Steps, EpochSteps, Bytes}
use Rattle.vm_recorded.specs.Hosts.{GuestView, HostView}
use Rattle.vm_recorded.specs.Texts.{text_of}
use Rattle.vm_recorded.specs.Traces.{longest_from, steps_from}

abbrev pub has_many_steps : GuestView → Bool
has_many_steps g = nat_lt 1000000 (steps_from 0 g.uses)

abbrev pub has_long_epoch : GuestView → Bool
has_long_epoch g = nat_lt 65536 (longest_from 0 g.uses)

-- the first limit that a host passes, but for that of bytes
unfoldable pub limit_of : HostView → Option Limit
limit_of host =
    if nat_lt 10000 host.epochs then Some Epochs
    else (if nat_lt 256 (length host.guests) then Some Guests
    else (if list_any has_many_steps host.guests then Some Steps
    else (if list_any has_long_epoch host.guests then Some EpochSteps
    else None)))

-- whether its text is too long
unfoldable pub is_long : HostView → Bool
is_long host = nat_lt 16777216 (length (text_of host))

abbrev pub or_bytes : Option Limit → Bool → Option Limit
or_bytes (Some limit) long = Some limit
or_bytes None long = if long then Some Bytes else None

-- the first limit that its text passes
abbrev pub limit_with_bytes : HostView → Option Limit
limit_with_bytes host = or_bytes (limit_of host) (is_long host)

-- ---- the same, of what guests come to

-- the most steps that a guest has
abbrev pub most_steps : List GuestView → ℕ
most_steps [] = 0
most_steps (g ∷ guests) = max (steps_from 0 g.uses) (most_steps guests)

-- the most steps that an epoch of a guest has
abbrev pub longest_epoch : List GuestView → ℕ
longest_epoch [] = 0
longest_epoch (g ∷ guests) = max (longest_from 0 g.uses) (longest_epoch guests)

-- the first limit that so many epochs, guests, steps and steps in an epoch pass
abbrev pub limit_by : (epochs guests steps longest : ℕ) → Option Limit
limit_by epochs guests steps longest =
    if nat_lt 10000 epochs then Some Epochs
    else (if nat_lt 256 guests then Some Guests
    else (if nat_lt 1000000 steps then Some Steps
    else (if nat_lt 65536 longest then Some EpochSteps
    else None)))
