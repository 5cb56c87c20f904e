-- Which words the command line `vmseries [--svg] [--workers N] [FILE]` takes, and which ask for a drawing.
use Rattle.std.specs.Prelude.{Bool, true, List, [], ◌∷◌, None, codes}
use Rattle.clap.specs.Words.{Text}
use Rattle.vm_programs.specs.runs.Words.{workers_rule}
use Rattle.vm_words.specs.Words.{AreTaken as AreTakenBy, Line, asked, has_flag}

-- `vmseries [--svg] [--workers N] [FILE]`
abbrev pub vmseries_line : Line
vmseries_line = record {
  program = codes "vmseries";
  flags = record { name = codes "svg"; beside = None } ∷ [];
  values = workers_rule ∷ [];
  takes_file = true;
}

-- words that are taken, of which the first is the program's name
abbrev pub AreTaken : List Text → Type 0
AreTaken words = AreTakenBy vmseries_line words

-- `--svg` is among words that are taken
abbrev pub wants_drawing : List Text → Bool
wants_drawing words = has_flag (codes "svg") (asked vmseries_line words)
