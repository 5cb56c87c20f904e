-- Which words the command line `vmmem [--workers N]` takes.
use Rattle.std.specs.Prelude.{false, List, [], ◌∷◌, codes}
use Rattle.clap.specs.Words.{Text}
use Rattle.vm_programs.specs.runs.Words.{workers_rule}
use Rattle.vm_words.specs.Words.{AreTaken as AreTakenBy, Line}

-- `vmmem [--workers N]`
abbrev pub vmmem_line : Line
vmmem_line = record { program = codes "vmmem"; flags = []; values = workers_rule ∷ []; takes_file = false }

-- words that are taken, of which the first is the program's name
abbrev pub AreTaken : List Text → Type 0
AreTaken words = AreTakenBy vmmem_line words
