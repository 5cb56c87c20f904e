-- The guests that start at epoch 0, by their numbers, in order.
use Rattle.std.specs.Prelude.{ℕ, ◌+◌, ◌==◌, ◌&&◌, Bool, true, false, List, [], ◌∷◌, ◌++◌, if◌then◌else◌, Option, Some, None}
use Rattle.vm_check.specs.declared.order.Ask.{Ask}
use Rattle.vm_check.specs.declared.order.Ask.TheVariants.{Start, Destroy, SetMemory, SetMinimum, Other}
use Rattle.vm_check.specs.declared.order.Asked.{Asked}
use Rattle.vm_check.specs.declared.order.Asked.TheVariants.{Of, Wrong}
use Rattle.vm_check.specs.declared.order.Order.{Order}
use Rattle.vm_check.specs.Guests.{is_start}

-- those that start by themselves, from this number on
abbrev pub autostarts_from : ℕ → List Bool → List ℕ
autostarts_from guest [] = []
autostarts_from guest (true ∷ flags) = guest ∷ autostarts_from (guest + 1) flags
autostarts_from guest (false ∷ flags) = autostarts_from (guest + 1) flags

abbrev pub is_end : Ask → Bool
is_end Start = false
is_end Destroy = true
is_end (SetMemory pages) = false
is_end SetMinimum = true
is_end Other = false

-- a `destroy` or a `memtune` of a guest at epoch 0: what such a command changes isn't followed
abbrev pub ends_by : (at : ℕ) → Asked → Bool
ends_by at (Of guest ask) = at == 0 && is_end ask
ends_by at (Wrong wrong) = false

abbrev pub ends_starts : Order → Bool
ends_starts order = ends_by order.at order.asked

-- the guest that a command starts at epoch 0
abbrev pub starts_by : (at : ℕ) → Asked → Option ℕ
starts_by at (Of guest ask) = if at == 0 && is_start ask then Some guest else None
starts_by at (Wrong wrong) = None

abbrev pub started_by : Order → Option ℕ
started_by order = starts_by order.at order.asked

abbrev pub with_started : Option ℕ → List ℕ → List ℕ
with_started None later = later
with_started (Some guest) later = guest ∷ later

-- those that commands of epoch 0 start
abbrev pub ordered_starts : List Order → List ℕ
ordered_starts [] = []
ordered_starts (order ∷ orders) = if ends_starts order then [] else with_started (started_by order) (ordered_starts orders)

-- a run without an epoch has no start
abbrev pub starts_of : ℕ → List Bool → List Order → List ℕ
starts_of epochs autostart orders = if epochs == 0 then [] else autostarts_from 0 autostart ++ ordered_starts orders
