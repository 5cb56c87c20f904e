-- What is found of a configuration, part by part.
use Rattle.std.specs.Prelude.{ℕ, Bool, false, List, [], ◌∷◌, ◌++◌, map, ◌==◌, if◌then◌else◌, slice_get, unwrap_or, Option, Some, None}
use Rattle.std.specs.Option.{option_map_or}
use Rattle.vm_config.specs.declared.config.Config.{Config}
use Rattle.vm_config.specs.declared.place.Key.{Key}
use Rattle.vm_config.specs.declared.place.Key.TheVariants as key
use Rattle.vm_config.specs.declared.place.Part.TheVariants as part
use Rattle.vm_domains.specs.Domains.{configs_of, names_of}
use Rattle.vm_domains.specs.Machine.{MachineConfig}
use Rattle.vm_guest.specs.Config.{GuestConfig}
use Rattle.vm_check.specs.declared.admissions.Refusal.{Refusal}
use Rattle.vm_check.specs.declared.finding.Finding.{Finding}
use Rattle.vm_check.specs.declared.order.Order.{Order}
use Rattle.vm_check.specs.declared.place.FindingPlace.TheVariants as place
use Rattle.vm_check.specs.declared.what.What.{What}
use Rattle.vm_check.specs.Admissions.{refusals_of}
use Rattle.vm_check.specs.Commands.{command_findings}
use Rattle.vm_check.specs.Guests.{long_trace, never_starts}
use Rattle.vm_check.specs.Inflated.{inflated_page}
use Rattle.vm_check.specs.Minimums.{minimum_above}
use Rattle.vm_check.specs.Orders.{order_of}
use Rattle.vm_check.specs.Starts.{starts_of}
use Rattle.vm_check.specs.Thresholds.{threshold_findings}

-- a configuration, with what its command lines ask for, and which starts of epoch 0 are refused
pub record Seen : Type 0 where
  pub machine : MachineConfig
  pub epochs : ℕ
  pub configs : List GuestConfig
  pub autostart : List Bool
  pub orders : List Order
  pub refusals : List Refusal

abbrev pub orders_in : Config → List Order
orders_in c = map (order_of c.machine.page (names_of c.domains)) c.commands

abbrev pub refusals_in : Config → List Refusal
refusals_in c = refusals_of c.machine (configs_of c.domains) (starts_of c.epochs c.autostart (orders_in c))

abbrev pub seen_of : Config → Seen
seen_of c = record {
  machine = c.machine;
  epochs = c.epochs;
  configs = configs_of c.domains;
  autostart = c.autostart;
  orders = orders_in c;
  refusals = refusals_in c;
}

-- ---- a guest

-- the refused starts of the guest of a number
abbrev pub start_findings : ℕ → List Refusal → List Finding
start_findings guest [] = []
start_findings guest (refusal ∷ refusals) =
    if refusal.guest == guest
    then record { place = place.Guest guest; what = refusal.lack } ∷ start_findings guest refusals
    else start_findings guest refusals

-- what is found at a key of the guest of a number, if anything
abbrev pub found_at : ℕ → Key → Option What → List Finding
found_at guest key None = []
found_at guest key (Some what) = record { place = place.Key (part.Guest guest) key; what = what } ∷ []

-- of the guest of a number, which is set up so
abbrev pub findings_of : Seen → ℕ → (autostart : Bool) → GuestConfig → List Finding
findings_of s guest autostart c =
    start_findings guest s.refusals
    ++ (found_at guest key.Min (minimum_above s.epochs guest c.min s.orders)
    ++ (found_at guest key.Autostart (never_starts s.epochs guest autostart s.orders)
    ++ (found_at guest key.Trace (long_trace s.epochs c)
    ++ found_at guest key.Trace (inflated_page c))))

-- of the guest of a number; where there is no such guest nothing
abbrev pub guest_findings : Seen → ℕ → List Finding
guest_findings s guest = option_map_or (findings_of s guest (unwrap_or (slice_get s.autostart guest) false)) (slice_get s.configs guest) []

-- ---- the other parts

abbrev pub root_findings : Seen → List Finding
root_findings s = threshold_findings s.machine

-- of the command of a number
abbrev pub command_findings_at : Seen → ℕ → List Finding
command_findings_at s number = option_map_or (command_findings s.epochs number) (slice_get s.orders number) []
