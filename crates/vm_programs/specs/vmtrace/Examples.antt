-- What words say to `vmtrace`, by examples.
use Rattle.std.specs.Prelude.{◌≡◌, List, ◌∷◌, None, codes, true}
use Rattle.clap.specs.Words.{Text}
use Rattle.vm_import.specs.Settings.{Settings}
use Rattle.vm_words.specs.Words.{AreTaken as AreTakenBy}
use Rattle.vm_programs.specs.vmtrace.CommandLine.{rows_of, settings_in, trace_line}
use Rattle.vm_programs.specs.vmtrace.Taken.{AreTaken}

-- these words behind the program's name
abbrev pub called : List Text → List Text
called words = codes "vmtrace" ∷ words

-- what no words ask for
abbrev pub usual : Settings
usual = record {
  name = codes "guest";
  min = None;
  interval = 1000000;
  quantum = 1024;
  skip = 0;
  steps = 1000000;
  has_code = true;
}

-- they are taken, and ask for this
pub record AskFor (words : List Text) (settings : Settings) : Type 0 where
  pub taken : AreTaken (called words)
  pub asked : settings_in (rows_of (called words)) ≡ settings

-- they have the form of the command line, and are refused for the name
pub record HaveBadName (words : List Text) : Type 0 where
  pub formed : AreTakenBy trace_line (called words)
  pub untaken : AreTaken (called words) → ⊥

-- they are not taken
abbrev pub AreRefused : List Text → Type 0
AreRefused words = AreTaken (called words) → ⊥
