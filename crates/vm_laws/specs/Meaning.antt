-- The configuration that the text of an import means.
use Rattle.std.specs.Prelude.{◌≡◌, ⊤, ℕ, ◌≤◌, ◌+◌, ◌-◌, ◌%◌, if◌then◌else◌, true, List, [], ◌∷◌, ◌++◌, length, map, replicate, Option, Ok}
use Rattle.std.specs.Option.{ForSome}
use Rattle.vm_config.specs.declared.config.Config.{Config}
use Rattle.vm_config.specs.Names.{is_name}
use Rattle.vm_config.specs.Reading.{config_of}
use Rattle.vm_domains.specs.Machine.{MachineConfig}
use Rattle.vm_guest.specs.Config.{GuestConfig}
use Rattle.vm_import.specs.Guests.{epochs_of, frames_for, guest_of, min_of}
use Rattle.vm_import.specs.Intervals.{intervals_of, kept_in}
use Rattle.vm_import.specs.Settings.{Settings}
use Rattle.vm_import.specs.Steps.{idle_behind}
use Rattle.vm_import.specs.Taking.{taken_of}
use Rattle.vm_import.specs.Texts.{text_of}
use Rattle.vm_import.specs.declared.limits.Limit.{Limit}
use Rattle.vm_import.specs.Logs.{log_of}
use Rattle.vm_import.specs.declared.access.Access.{Access}
use Rattle.vm_trace.specs.declared.step.Action.{Action}
use Rattle.vm_trace.specs.declared.step.Action.TheVariants.{Idle, Read, Write}
use Rattle.vm_trace.specs.Sized.{steps_in}
use Rattle.vm_trace.specs.Versions.{before_3}
use Rattle.vm_import.specs.declared.touch.RankedTouch.{RankedTouch}

-- ---- steps

-- what a touch becomes in the interval of this number: one byte is read, or the last byte of the number is written
abbrev pub action_of : ℕ → RankedTouch → Action
action_of number touch =
    if touch.writes then Write touch.rank touch.offset (number % 256 ∷ []) else Read touch.rank touch.offset 1

-- the steps of intervals from this number on, of which the first is behind so many idle steps
abbrev pub actions_behind : (quantum number idle : ℕ) → List (List RankedTouch) → List Action
actions_behind quantum number idle [] = []
actions_behind quantum number idle (kept ∷ others) =
    replicate idle Idle
    ++ (map (action_of number) kept ++ actions_behind quantum (number + 1) (idle_behind quantum (length kept)) others)

-- the steps of the guest that accesses make
unfoldable pub actions_of : Settings → List Access → List Action
actions_of settings accesses =
    actions_behind settings.quantum 1 0 (kept_in settings.has_code (intervals_of settings.interval accesses))

-- ---- the configuration

-- one guest of this size, with these steps; what an import doesn't say is as it is where a configuration doesn't say it
abbrev pub guest_config : Settings → ℕ → List Action → GuestConfig
guest_config settings size trace = record {
  size = size;
  min = min_of settings size;
  shares = 1000;
  samples = 100;
  period = 1000;
  rate = 16;
  quantum = settings.quantum;
  seed = 0;
  stream = 0;
  tell = true;
  own_driver = true;
  page = 4;
  trace = trace;
}

-- a machine with room for it
abbrev pub machine_for : Settings → ℕ → MachineConfig
machine_for settings size = record {
  frames = frames_for size;
  swap = size - min_of settings size;
  overhead = 0;
  tax = 7500;
  percent = record { high = 600; soft = 400; hard = 200; low = 100 };
  page_rate = 16;
  rebalance = 0;
  page = 4;
}

-- both, with as many epochs as the steps fill
abbrev pub config_for : Settings → ℕ → List Action → Config
config_for settings size trace = record {
  machine = machine_for settings size;
  epochs = epochs_of settings.quantum (length trace);
  domains = record { name = settings.name; config = guest_config settings size trace } ∷ [];
  autostart = true ∷ [];
  commands = [];
}

-- the configuration of the guest that accesses make
abbrev pub imported_config : Settings → List Access → Config
imported_config settings accesses = config_for settings (guest_of settings accesses).size (actions_of settings accesses)

-- ---- when a text is written

-- numbers in the ranges that `ImportSettings` keeps, and a name that a configuration takes
pub record AreSettings (settings : Settings) : Type 0 where
  pub name : is_name settings.name ≡ true
  pub min : ForSome settings.min (λ pages. 1 ≤ pages)
  pub some_quantum : 1 ≤ settings.quantum
  pub few_quantum : settings.quantum ≤ 65536
  pub steps : settings.steps ≤ 1000000

-- These accesses are taken of the log, and touch a page: a text is written.
pub record AreWritten (settings : Settings) (log : List ℕ) (accesses : List Access) : Type 0 where
  pub limit : Option Limit
  pub taken : taken_of settings (log_of log) ≡ Ok (record { accesses = accesses; limit = limit })
  pub touched : 1 ≤ (guest_of settings accesses).size

-- ---- what is read

-- the text means the configuration
abbrev pub Means : List ℕ → Config → Type 0
Means text c = config_of text ≡ Ok c

-- the text of the guest that accesses make means its configuration
abbrev pub IsRead : Settings → List Access → Type 0
IsRead settings accesses = Means (text_of settings (guest_of settings accesses)) (imported_config settings accesses)

-- each text by itself is the step at its place, for a guest of this size
abbrev pub MeanSteps : (size : ℕ) → List (List ℕ) → List Action → Type 0
MeanSteps size [] [] = ⊤
MeanSteps size [] (step ∷ steps) = ⊥
MeanSteps size (text ∷ texts) [] = ⊥
MeanSteps size (text ∷ texts) (step ∷ steps) = (steps_in (before_3 262144) size text ≡ Ok (step ∷ [])) × MeanSteps size texts steps

-- the texts of its steps, one by one, are its steps
abbrev pub AreRead : Settings → List Access → Type 0
AreRead settings accesses = MeanSteps (guest_of settings accesses).size (guest_of settings accesses).trace (actions_of settings accesses)

-- the text is that of a guest which the log makes: it means its configuration, and is no longer than what `vmmem` reads
pub record IsImported (settings : Settings) (log text : List ℕ) : Type 0 where
  pub accesses : List Access
  pub written : AreWritten settings log accesses
  pub read : Means text (imported_config settings accesses)
  pub short : length text ≤ 16777216
