-- Configurations for examples that were worked out by hand.
use Rattle.std.specs.Prelude.{ℕ, ◌≡◌, Bool, List, [], ◌∷◌, None, true, codes}
use Rattle.vm_config.specs.declared.config.Config.{Config}
use Rattle.vm_config.specs.Schedule.{ScheduledLine}
use Rattle.vm_domains.specs.Domains.{Domain}
use Rattle.vm_trace.specs.declared.step.Action.{Action}
use Rattle.vm_trace.specs.declared.step.Action.TheVariants.{Read, Touch, Post}
use Rattle.vm_trace.specs.declared.step.Queue.TheVariants.{Inflate, Deflate}
use Rattle.vm_check.specs.Check.{lines_of}
use Rattle.vm_check.specs.Checked.{seen_of}

abbrev pub config_with : (frames swap overhead epochs : ℕ) → List Domain → List Bool → List ScheduledLine → Config
config_with frames swap overhead epochs domains autostart commands = record {
  machine = record {
    frames = frames;
    swap = swap;
    overhead = overhead;
    tax = 7500;
    percent = record { high = 600; soft = 400; hard = 200; low = 100 };
    page_rate = 16;
    rebalance = 0;
    page = 4;
  };
  epochs = epochs;
  domains = domains;
  autostart = autostart;
  commands = commands;
}

-- a guest with two steps an epoch
abbrev pub guest_with : (name : List ℕ) → (size min : ℕ) → (own_driver : Bool) → List Action → Domain
guest_with name size min own_driver trace = record {
  name = name;
  config = record {
    size = size;
    min = min;
    shares = 1000;
    samples = 100;
    period = 1000;
    rate = 16;
    quantum = 2;
    seed = 0;
    stream = 0;
    tell = true;
    own_driver = own_driver;
    page = 4;
    trace = trace;
  };
}

abbrev pub guest : (name : List ℕ) → (size min : ℕ) → Domain
guest name size min = guest_with name size min true []

abbrev pub at : ℕ → List ℕ → ScheduledLine
at epoch line = record { at = epoch; line = line }

-- five guests of which the third one and the last aren't admitted
abbrev pub five_guests : List Domain
five_guests =
    guest (codes "a") 300 200
    ∷ guest (codes "b") 250 150
    ∷ guest (codes "c") 500 50
    ∷ guest (codes "d") 10 5
    ∷ guest (codes "e") 900 900
    ∷ []

-- commands for a guest with the name a
abbrev pub faulty_commands : List ScheduledLine
faulty_commands =
    at 1 (codes "setmem a 400")
    ∷ at 5 (codes "start a")
    ∷ at 0 (codes "setmem b 1")
    ∷ at 0 (codes "stop a")
    ∷ at 0 (codes "setmem a 1XB")
    ∷ []

abbrev pub tuning_commands : List ScheduledLine
tuning_commands =
    at 4 (codes "setmem a 400")
    ∷ at 0 (codes "start a")
    ∷ at 3 (codes "memtune a --min-guarantee 400")
    ∷ []

-- puts page 7 into the balloon, and touches it
abbrev pub inflating : List Action
inflating = Post Inflate (7 ∷ 0 ∷ 0 ∷ 0 ∷ []) ∷ Touch 3 ∷ Read 7 0 1 ∷ []

-- .. and takes it out later
abbrev pub deflating : List Action
deflating = Post Inflate (7 ∷ 0 ∷ 0 ∷ 0 ∷ []) ∷ Read 7 0 1 ∷ Post Deflate (7 ∷ 0 ∷ 0 ∷ 0 ∷ []) ∷ []

-- what is told of a configuration whose keys are all known
abbrev pub HasLines : Config → List (List ℕ) → Type 0
HasLines c lines = lines_of None (seen_of c) ≡ lines
