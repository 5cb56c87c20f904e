-- The keys of the root, step by step.
use Rattle.std.proofs.Common.{◌≡◌, ◌≤◌, List, [], Result, Ok, Err, IfOk, codes, refl}
use Rattle.serde_json.specs.Data.{Data}
use Rattle.serde_json.specs.Find.{get}
use Rattle.vm_config.specs.declared.config.Config.{Config}
use Rattle.vm_config.specs.declared.fault.Fault.{Fault}
use Rattle.vm_config.specs.declared.guests.GuestList.{GuestList}
use Rattle.vm_config.specs.declared.place.Key.TheVariants.{Guests, Commands}
use Rattle.vm_config.specs.declared.place.Part.TheVariants.{Root}
use Rattle.vm_config.specs.declared.reading.Numbers.{Numbers}
use Rattle.vm_config.specs.declared.version.Limits.{Limits}
use Rattle.vm_config.specs.Guests.{no_guests}
use Rattle.vm_config.specs.Keys.{objects_in, objects_or_none}
use Rattle.vm_config.specs.Limits.{IsConfig}
use Rattle.vm_config.specs.Located.{commands_at, guests_at, keys_at, numbers_at}
use Rattle.vm_config.specs.Places.{at, IsOrLacksMemory}
use Rattle.vm_config.specs.Schedule.{ScheduledLine}
use Rattle.vm_config.proofs.StepLemmas.{no_value}

abbrev pub objects_at : Limits → Data → Result (List Data) Fault
objects_at limits d = at Root Guests (objects_in limits.guests (get (codes "guests") d))

abbrev pub schedule_at : Data → Result (List Data) Fault
schedule_at d = at Root Commands (objects_or_none 10000 (get (codes "commands") d))

abbrev pub config_with : Numbers → GuestList → List ScheduledLine → Config
config_with numbers guests commands = record {
  machine = numbers.machine;
  epochs = numbers.epochs;
  domains = guests.domains;
  autostart = guests.autostart;
  commands = commands;
}

pub numbers_fail : (limits : Limits) (d : Data) (f : Fault) → numbers_at limits d ≡ Err f → keys_at limits d ≡ Err f
unfolding keys_at
numbers_fail limits d f is = rw is refl

pub objects_fail : (limits : Limits) (d : Data) (numbers : Numbers) (f : Fault)
    → numbers_at limits d ≡ Ok numbers → objects_at limits d ≡ Err f → keys_at limits d ≡ Err f
unfolding keys_at
objects_fail limits d numbers f first is = rw (first, is) refl

pub schedule_fails : (limits : Limits) (d : Data) (numbers : Numbers) (objects : List Data) (f : Fault)
    → numbers_at limits d ≡ Ok numbers → objects_at limits d ≡ Ok objects → schedule_at d ≡ Err f → keys_at limits d ≡ Err f
unfolding keys_at
schedule_fails limits d numbers objects f first second is = rw (first, second, is) refl

pub guests_fail : (limits : Limits) (d : Data) (numbers : Numbers) (objects schedule : List Data) (f : Fault)
    → numbers_at limits d ≡ Ok numbers → objects_at limits d ≡ Ok objects → schedule_at d ≡ Ok schedule
    → guests_at limits numbers.quantum numbers.page objects no_guests ≡ Err f → keys_at limits d ≡ Err f
unfolding keys_at
guests_fail limits d numbers objects schedule f first second third is = rw (first, second, third, is) refl

pub commands_fail : (limits : Limits) (d : Data) (numbers : Numbers) (objects schedule : List Data) (guests : GuestList) (f : Fault)
    → numbers_at limits d ≡ Ok numbers → objects_at limits d ≡ Ok objects → schedule_at d ≡ Ok schedule
    → guests_at limits numbers.quantum numbers.page objects no_guests ≡ Ok guests → commands_at schedule [] ≡ Err f → keys_at limits d ≡ Err f
unfolding keys_at
commands_fail limits d numbers objects schedule guests f first second third fourth is =
    rw (first, second, third, fourth, is) refl

pub keys_are : (limits : Limits) (d : Data) (numbers : Numbers) (objects schedule : List Data) (guests : GuestList)
    (commands : List ScheduledLine)
    → numbers_at limits d ≡ Ok numbers → objects_at limits d ≡ Ok objects → schedule_at d ≡ Ok schedule
    → guests_at limits numbers.quantum numbers.page objects no_guests ≡ Ok guests → commands_at schedule [] ≡ Ok commands
    → keys_at limits d ≡ Ok (config_with numbers guests commands)
unfolding keys_at
keys_are limits d numbers objects schedule guests commands first second third fourth is =
    rw (first, second, third, fourth, is) refl

-- what is promised of an answer, and holds of a failure
abbrev pub Promises : Limits → Data → Result Config Fault → Type 0
Promises l d answer = record {
  config : IsOrLacksMemory answer (keys_at l d);
  limits : IfOk answer IsConfig;
  tax : IfOk answer (λ c. c.machine.tax ≤ l.tax);
  percent : IfOk answer (λ c. c.machine.percent.high ≤ l.percent);
}

pub failed : (l : Limits) (d : Data) (answer : Result Config Fault) (f : Fault)
    → answer ≡ Err f → IsOrLacksMemory answer (keys_at l d) → Promises l d answer
failed l d answer f is right = record {
  config = right;
  limits = no_value IsConfig answer f is;
  tax = no_value (λ c. c.machine.tax ≤ l.tax) answer f is;
  percent = no_value (λ c. c.machine.percent.high ≤ l.percent) answer f is;
}
