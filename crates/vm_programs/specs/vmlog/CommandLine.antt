-- Which words the command line `vmlog [--every N] [FILE]` takes, and what they ask for.
use Rattle.std.specs.Prelude.{ℕ, true, List, [], ◌∷◌, codes, unwrap_or}
use Rattle.clap.specs.Words.{Row, Text}
use Rattle.vm_words.specs.declared.command_line.ValueKind.TheVariants.{Number}
use Rattle.vm_words.specs.Words.{AreTaken as AreTakenBy, Line, asked, number_of}

-- `vmlog [--every N] [FILE]`
abbrev pub log_line : Line
log_line = record {
  program = codes "vmlog";
  flags = [];
  values = record { name = codes "every"; kind = Number 1 10000 } ∷ [];
  takes_file = true;
}

-- words that are taken, of which the first is the program's name
abbrev pub AreTaken : List Text → Type 0
AreTaken words = AreTakenBy log_line words

-- the samples of an epoch
abbrev pub every_of : List Row → ℕ
every_of rows = unwrap_or (number_of (codes "every") rows) 1

-- those that words ask for that are taken
abbrev pub every_by : List Text → ℕ
every_by words = every_of (asked log_line words)
