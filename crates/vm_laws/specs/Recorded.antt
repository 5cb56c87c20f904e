-- The configuration that the text of a recorded host means.
use Rattle.std.specs.Prelude.{◌≡◌, ℕ, zero, suc, ◌+◌, min, Bool, true, false, List, [], ◌∷◌, length, map, Ok}
use Rattle.vm_config.specs.declared.config.Config.{Config}
use Rattle.vm_config.specs.Reading.{config_of, steps_from as steps_read}
use Rattle.vm_config.specs.Versions.{version_3}
use Rattle.vm_domains.specs.Domains.{Domain}
use Rattle.vm_domains.specs.Machine.{MachineConfig}
use Rattle.vm_guest.specs.Config.{GuestConfig}
use Rattle.vm_recorded.specs.Hosts.{GuestView, HostView, quantum_for, swap_for}
use Rattle.vm_recorded.specs.Texts.{text_of}
use Rattle.vm_recorded.specs.Traces.{steps_from, trace_of}
use Rattle.vm_laws.specs.RecordedLines.{lines_of}
use Rattle.vm_laws.specs.RecordedSteps.{actions_of}

-- ---- the machine

-- what all guests together may hold, and swap for what they have above their minimums; the rest is the policy's
abbrev pub machine_of : HostView → MachineConfig
machine_of host = record {
  frames = host.frames;
  swap = swap_for host.guests;
  overhead = host.policy.overhead;
  tax = host.policy.tax;
  percent = host.policy.percents;
  page_rate = min host.policy.rate 256;
  rebalance = host.policy.rebalance;
  page = host.policy.unit;
}

-- ---- guests

-- a guest whose epochs have so many steps; `number` is its place, and what the text doesn't say is as a configuration has it then
abbrev pub guest_config : (page quantum number : ℕ) → GuestView → GuestConfig
guest_config page quantum number g = record {
  size = g.size;
  min = g.min;
  shares = g.shares;
  samples = 100;
  period = quantum;
  rate = 256;
  quantum = quantum;
  seed = number;
  stream = 0;
  tell = false;
  own_driver = true;
  page = page;
  trace = actions_of g.uses;
}

-- guests from this place on
abbrev pub domains_from : (page quantum number : ℕ) → List GuestView → List Domain
domains_from page quantum number [] = []
domains_from page quantum number (g ∷ guests) =
    record { name = g.name; config = guest_config page quantum number g } ∷ domains_from page quantum (number + 1) guests

-- a guest starts by itself if it is there in the first epoch
abbrev pub is_there : (first : ℕ) → Bool
is_there zero = true
is_there (suc first) = false

-- ---- the whole

-- the configuration of a recorded host
abbrev pub config_of_host : HostView → Config
config_of_host host = record {
  machine = machine_of host;
  epochs = host.epochs;
  domains = domains_from host.policy.unit (quantum_for host.guests) 0 host.guests;
  autostart = map (λ g. is_there g.first) host.guests;
  commands = lines_of host;
}

-- ---- what is read

-- the text of the host means its configuration
abbrev pub IsHostRead : HostView → Type 0
IsHostRead host = config_of (text_of host) ≡ Ok (config_of_host host)

-- the texts of the steps of a guest are read as its steps, of which there are as many as are counted
pub record AreStepsRead (g : GuestView) : Type 0 where
  pub read : (guest : ℕ) → steps_read version_3 g.size guest 0 (trace_of g.uses) [] ≡ Ok (actions_of g.uses)
  pub count : length (actions_of g.uses) ≡ steps_from 0 g.uses
