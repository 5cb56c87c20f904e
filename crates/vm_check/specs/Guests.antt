-- Guests that never start, and traces that can't end.
use Rattle.std.specs.Prelude.{ℕ, ◌*◌, ◌==◌, ◌&&◌, ◌||◌, Bool, true, false, List, length, if◌then◌else◌, nat_le, nat_lt, Option, Some, None}
use Rattle.std.specs.List.{list_any}
use Rattle.vm_guest.specs.Config.{GuestConfig}
use Rattle.vm_check.specs.declared.order.Ask.{Ask}
use Rattle.vm_check.specs.declared.order.Ask.TheVariants.{Start, Destroy, SetMemory, SetMinimum, Other}
use Rattle.vm_check.specs.declared.order.Asked.{Asked}
use Rattle.vm_check.specs.declared.order.Asked.TheVariants.{Of, Wrong}
use Rattle.vm_check.specs.declared.order.Order.{Order}
use Rattle.vm_check.specs.declared.what.What.{What}
use Rattle.vm_check.specs.declared.what.What.TheVariants.{LongTrace, NeverStarts}

abbrev pub is_start : Ask → Bool
is_start Start = true
is_start Destroy = false
is_start (SetMemory pages) = false
is_start SetMinimum = false
is_start Other = false

-- the guest of a number is started
abbrev pub starts : ℕ → Asked → Bool
starts guest (Of other ask) = other == guest && is_start ask
starts guest (Wrong wrong) = false

-- .. by a command that runs
abbrev pub is_started : (epochs guest : ℕ) → List Order → Bool
is_started epochs guest orders = list_any (λ order. nat_lt order.at epochs && starts guest order.asked) orders

abbrev pub never_starts : (epochs guest : ℕ) → (autostart : Bool) → List Order → Option What
never_starts epochs guest autostart orders = if autostart || is_started epochs guest orders then None else Some NeverStarts

-- an epoch runs as many steps as the quantum
abbrev pub long_trace : (epochs : ℕ) → GuestConfig → Option What
long_trace epochs c =
    if nat_le (length c.trace) (epochs * c.quantum) then None else Some (LongTrace (length c.trace) epochs c.quantum)
