-- The configuration that a text is, or the first fault of the text with its place. The definitions are those of `Reading.antt`, with
-- the place of each key; the keys of a guest, and the first ones of the root, are read here in groups.
use Rattle.std.specs.Prelude.{ℕ, ◌==◌, List, [], ◌∷◌, ◌++◌, length, true, if◌then◌else◌, Result, Ok}
use Rattle.serde_json.specs.Data.{Data}
use Rattle.serde_json.specs.Find.{get}
use Rattle.vm_domains.specs.Domains.{Domain}
use Rattle.vm_domains.specs.Machine.{MachineConfig}
use Rattle.vm_config.specs.declared.config.Config.{Config}
use Rattle.vm_config.specs.declared.guest_keys.Choices.{Choices}
use Rattle.vm_config.specs.declared.guest_keys.Pages.{Pages}
use Rattle.vm_config.specs.declared.guest_keys.Rates.{Rates}
use Rattle.vm_config.specs.declared.guests.GuestList.{GuestList}
use Rattle.vm_config.specs.declared.machine.Additions.{Additions}
use Rattle.vm_config.specs.declared.reading.Numbers.{Numbers}
use Rattle.vm_config.specs.declared.place.Key.TheVariants.{Version, Frames, Swap, Overhead, Tax, Percent, PageRate, Rebalance, Page, Quantum, Epochs, Guests, Commands, Name, Size, Min, Shares, Samples, Period, Rate, Seed, Stream, Autostart, Tell, Trace, At, Line}
use Rattle.vm_config.specs.declared.place.Part.{Part}
use Rattle.vm_config.specs.declared.place.Part.TheVariants.{Root, Guest, Command}
use Rattle.vm_config.specs.declared.fault.Fault.{Fault}
use Rattle.vm_config.specs.declared.version.Limits.{Limits}
use Rattle.vm_config.specs.Guests.{Listed, no_guests, with_guest}
use Rattle.vm_config.specs.Keys.{objects_in, objects_or_none, texts_or_none}
use Rattle.vm_config.specs.Migration.{migrated}
use Rattle.vm_config.specs.Outcomes.{◌>>=◌}
use Rattle.vm_config.specs.Places.{at, in_text, name_of, number_at, number_or_at, number_if_at, flag_or_at, flag_if_at, own_driver_if_at, percents_or_at}
use Rattle.vm_config.specs.Reading.{data_in, line_in, name_in, object_of, steps_from}
use Rattle.vm_config.specs.Schedule.{ScheduledLine}
use Rattle.vm_config.specs.Versions.{version_1, newer}

-- the keys of the machine that version 3 has beside the others
unfoldable pub additions_at : Limits → Data → Result Additions Fault
additions_at limits d = do
  rebalance ← number_if_at limits.knows_version_3 d Root Rebalance 0 262144 0
  page ← number_if_at limits.knows_version_3 d Root Page 4 1048576 4
  Ok (record { rebalance = rebalance; page = page })

unfoldable pub machine_at : Limits → Data → Result MachineConfig Fault
machine_at limits d = do
  frames ← number_at d Root Frames 1 limits.frames
  swap ← number_or_at d Root Swap 0 limits.swap 0
  overhead ← number_or_at d Root Overhead 0 1024 0
  tax ← number_or_at d Root Tax 0 limits.tax limits.default_tax
  percent ← percents_or_at d Root Percent limits.percent limits.default_percent
  page_rate ← number_or_at d Root PageRate 1 256 16
  additions ← additions_at limits d
  Ok (record {
    frames = frames;
    swap = swap;
    overhead = overhead;
    tax = tax;
    percent = percent;
    page_rate = page_rate;
    rebalance = additions.rebalance;
    page = additions.page;
  })

-- the keys of a guest, each fault at its key, by what they say: its pages,
unfoldable pub pages_at : Limits → Data → Part → Result Pages Fault
pages_at limits d guest = do
  size ← number_at d guest Size 1 limits.size
  min ← number_at d guest Min 1 size
  Ok (record { size = size; min = min })

-- its part, how it is sampled, and how fast its driver gives pages up,
unfoldable pub rates_at : Data → Part → Result Rates Fault
rates_at d guest = do
  shares ← number_or_at d guest Shares 1 1000000 1000
  samples ← number_or_at d guest Samples 1 1000 100
  period ← number_or_at d guest Period 1 1000000 1000
  rate ← number_or_at d guest Rate 1 256 16
  Ok (record { shares = shares; samples = samples; period = period; rate = rate })

-- and its generator, whether it starts by itself, whether it tells, and whether it has a driver of its own
unfoldable pub choices_at : Limits → Data → Part → Result Choices Fault
choices_at limits d guest = do
  seed ← number_or_at d guest Seed 0 18446744073709551615 0
  stream ← number_or_at d guest Stream 0 18446744073709551615 0
  autostart ← flag_or_at d guest Autostart true
  tell ← flag_if_at limits.has_tell d guest Tell true
  own_driver ← own_driver_if_at limits.knows_version_3 d guest
  Ok (record { seed = seed; stream = stream; autostart = autostart; tell = tell; own_driver = own_driver })

-- the guest of this number
unfoldable pub keys_of_guest : Limits → (quantum page : ℕ) → Data → List Domain → Part → Result Listed Fault
keys_of_guest limits quantum page d earlier guest = do
  name ← at guest Name (name_in earlier (get (name_of Name) d))
  pages ← pages_at limits d guest
  rates ← rates_at d guest
  choices ← choices_at limits d guest
  texts ← at guest Trace (texts_or_none 1000000 (get (name_of Trace) d))
  trace ← at guest Trace (steps_from limits pages.size (length earlier) 0 texts [])
  Ok (record {
    domain = record {
      name = name;
      config = record {
        size = pages.size;
        min = pages.min;
        shares = rates.shares;
        samples = rates.samples;
        period = rates.period;
        rate = rates.rate;
        quantum = quantum;
        seed = choices.seed;
        stream = choices.stream;
        tell = choices.tell;
        own_driver = choices.own_driver;
        page = page;
        trace = trace;
      };
    };
    autostart = choices.autostart;
  })

-- a guest after these ones
abbrev pub guest_at : Limits → (quantum page : ℕ) → Data → List Domain → Result Listed Fault
guest_at limits quantum page d earlier = keys_of_guest limits quantum page d earlier (Guest (length earlier))

-- the guests, one by one, after these ones
abbrev pub guests_at : Limits → (quantum page : ℕ) → List Data → GuestList → Result GuestList Fault
guests_at limits quantum page [] earlier = Ok earlier
guests_at limits quantum page (d ∷ ds) earlier = do
  listed ← guest_at limits quantum page d earlier.domains
  guests_at limits quantum page ds (with_guest earlier listed)

-- the command of this number
abbrev pub command_at : ℕ → Data → Result ScheduledLine Fault
command_at number d = do
  epoch ← number_at d (Command number) At 0 9999
  line ← at (Command number) Line (line_in (get (name_of Line) d))
  Ok (record { at = epoch; line = line })

-- the commands, one by one, after these ones
abbrev pub commands_at : List Data → List ScheduledLine → Result (List ScheduledLine) Fault
commands_at [] done = Ok done
commands_at (d ∷ ds) done = do
  command ← command_at (length done) d
  commands_at ds (done ++ command ∷ [])

-- the first keys of the root after the version
unfoldable pub numbers_at : Limits → Data → Result Numbers Fault
numbers_at limits d = do
  machine ← machine_at limits d
  quantum ← number_or_at d Root Quantum 1 65536 100
  epochs ← number_at d Root Epochs 0 10000
  Ok (record { machine = machine; page = machine.page; quantum = quantum; epochs = epochs })

-- the keys of the root after the version, then each guest, and then each command
unfoldable pub keys_at : Limits → Data → Result Config Fault
keys_at limits d = do
  numbers ← numbers_at limits d
  objects ← at Root Guests (objects_in limits.guests (get (name_of Guests) d))
  schedule ← at Root Commands (objects_or_none 10000 (get (name_of Commands) d))
  guests ← guests_at limits numbers.quantum numbers.page objects no_guests
  commands ← commands_at schedule []
  Ok (record {
    machine = numbers.machine;
    epochs = numbers.epochs;
    domains = guests.domains;
    autostart = guests.autostart;
    commands = commands;
  })

abbrev pub root_at : List ℕ → Result Data Fault
root_at bytes = in_text (data_in bytes >>= object_of)

abbrev pub version_at : ℕ → Data → Result ℕ Fault
version_at newest root = number_at root Root Version 1 newest

-- of a text of version 1
abbrev pub config_v1_at : List ℕ → Result Config Fault
config_v1_at bytes = do
  root ← root_at bytes
  version ← version_at 1 root
  keys_at version_1 root

abbrev pub config_in_at : ℕ → Data → Result Config Fault
config_in_at version root =
    if version == 1 then keys_at version_1 root >>= (λ c. Ok (migrated c)) else keys_at (newer version) root

-- of a text
abbrev pub config_at : List ℕ → Result Config Fault
config_at bytes = do
  root ← root_at bytes
  version ← version_at 3 root
  config_in_at version root
