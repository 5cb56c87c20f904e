-- What is written of a sweep, and what the exit status 3 says of the reader and the writer.
use Rattle.std.specs.Prelude.{◌≡◌, ◌⊎◌, ℕ, List, Option, None, Some}
use Rattle.std.specs.Io.KnownBytes.{Appends, Keeps}
use Rattle.clap.specs.Words.{Text}
use Rattle.vm_config.specs.declared.config.Config.{Config}
use Rattle.vm_sim.specs.declared.run_error.RunError.{RunError}
use Rattle.vm_sim.specs.Run.{RunsConfig}
use Rattle.vm_streams.specs.Streams.{AppendsFront}
use Rattle.vm_sweep.specs.Combinations.{ValueLists}
use Rattle.vm_sweep.specs.Drawn.{FailsOnDrawing, drawing_of}
use Rattle.vm_sweep.specs.Refusals.{refusal_of}
use Rattle.vm_sweep.specs.Table.{guest_rows_of, guest_table_of, rows_of, table_of}
use Rattle.vm_sweep.specs.Written.{FailsOnTable}
use Rattle.vm_sweep.specs.declared.errors.GuestRefusal.{GuestRefusal}
use Rattle.vm_sweep.specs.declared.errors.SweepError.{SweepError}
use Rattle.vm_sweep.specs.declared.errors.SweepError.TheVariants.{Guest, Run}
use Rattle.vm_programs.specs.runs.Statuses.{IsRefused, StopsWith, status_of}
use Rattle.vm_programs.specs.vmsweep.CommandLine.{form_of, rows_of as rows_in}
use Rattle.vm_programs.specs.declared.vmsweep.asked.Form.{Form}
use Rattle.vm_programs.specs.declared.vmsweep.asked.Form.TheVariants.{Drawing, Guests, Table}
use Rattle.vm_programs.specs.vmsweep.Asking.{AskFor}

-- a sweep of a configuration in this form: its table, its table by guests, or its drawing
abbrev pub sweep_of : Form → ValueLists → Config → List ℕ
sweep_of Table lists config = table_of lists config
sweep_of Guests lists config = guest_table_of lists config
sweep_of Drawing lists config = drawing_of lists config

-- the status of a sweep that stopped
abbrev pub status_of_sweep : SweepError → ℕ
status_of_sweep (Run error) = status_of error
status_of_sweep (Guest refusal) = 1

module _ (old new : Option (List ℕ)) where
  -- the configuration refuses no list for a guest, and its sweep was written, and nothing else
  pub record HasSwept (form : Form) (lists : ValueLists) (config : Config) : Type 0 where
    pub accepted : refusal_of lists config ≡ None
    pub written : Appends old new (sweep_of form lists config)

  -- why there is none, or not all of it, and what was written by then
  abbrev pub FailsOnSweep : Form → ValueLists → (text : List ℕ) → RunError → Type 0
  FailsOnSweep Table lists text error = FailsOnTable old new (rows_of lists) text error
  FailsOnSweep Guests lists text error = FailsOnTable old new (guest_rows_of lists) text error
  FailsOnSweep Drawing lists text error = FailsOnDrawing old new lists text error

module _ (read_old read_new written_old written_new : Option (List ℕ)) where
  -- the configuration that was read refuses no list for a guest, and its sweep was written, and nothing else
  abbrev pub WritesSweep : Form → ValueLists → Type 0
  WritesSweep form lists = RunsConfig read_old read_new (HasSwept written_old written_new form lists)

  -- a front of it was written, and nothing else, or nothing at all
  abbrev pub StopsEarly : Form → ValueLists → Type 0
  StopsEarly form lists =
      StopsWith read_old read_new written_old written_new (λ config. AppendsFront written_old written_new (sweep_of form lists config))

  -- the same of the form and the lists that words ask for
  abbrev pub WritesSweepOf : List Text → Type 0
  WritesSweepOf words = (lists : ValueLists) × AskFor words lists × WritesSweep (form_of (rows_in words)) lists

  abbrev pub StopsEarlyOn : List Text → Type 0
  StopsEarlyOn words =
      ((lists : ValueLists) × AskFor words lists × StopsEarly (form_of (rows_in words)) lists)
      ⊎ Keeps written_old written_new

module _ (read_old read_new : Option (List ℕ)) where
  -- all that the reader had was taken, and it means no configuration, or one that refuses a list for a guest
  abbrev pub IsRefusedUnder : ValueLists → Type 0
  IsRefusedUnder lists =
      IsRefused read_old read_new
      ⊎ ((refusal : GuestRefusal) × RunsConfig read_old read_new (λ config. refusal_of lists config ≡ Some refusal))

  -- the same of the lists that words ask for
  abbrev pub IsRefusedOn : List Text → Type 0
  IsRefusedOn words = (lists : ValueLists) × AskFor words lists × IsRefusedUnder lists
