-- Which words `vmtrace` takes.
use Rattle.std.specs.Prelude.{◌≡◌, ℕ, List, true}
use Rattle.clap.specs.Words.{Text}
use Rattle.vm_config.specs.Names.{is_name}
use Rattle.vm_words.specs.Words.{AreTaken as AreTakenBy}
use Rattle.vm_programs.specs.Words.{IsStatusUnless}
use Rattle.vm_programs.specs.vmtrace.CommandLine.{name_of, rows_of, trace_line}

-- words that are taken, of which the first is the program's name
pub record AreTaken (words : List Text) : Type 0 where
  -- they are those of the command line
  pub formed : AreTakenBy trace_line words
  -- a configuration takes the name as a guest's
  pub named : is_name (name_of (rows_of words)) ≡ true

-- words that are not taken have status 2; that memory was refused has 3
abbrev pub IsStatusOfWords : List Text → ℕ → Type 0
IsStatusOfWords words = IsStatusUnless (AreTaken words)
