-- Which words the command line `vmsteer [--csv | --svg] [FILE]` takes, and what they ask for.
use Rattle.std.specs.Prelude.{true, List, [], ◌∷◌, Some, codes, if◌then◌else◌}
use Rattle.clap.specs.Words.{Row, Text}
use Rattle.vm_programs.specs.declared.vmsteer.output.Output.{Output}
use Rattle.vm_programs.specs.declared.vmsteer.output.Output.TheVariants.{Drawing, Samples}
use Rattle.vm_steer.specs.declared.form.Form.TheVariants.{Orders, Table}
use Rattle.vm_words.specs.Words.{AreTaken as AreTakenBy, Line, asked, has_flag}

-- `vmsteer [--csv | --svg] [FILE]`
abbrev pub vmsteer_line : Line
vmsteer_line = record {
  program = codes "vmsteer";
  flags =
      record { name = codes "csv"; beside = Some (codes "svg") }
      ∷ record { name = codes "svg"; beside = Some (codes "csv") }
      ∷ [];
  values = [];
  takes_file = true;
}

-- words that are taken, of which the first is the program's name
abbrev pub AreTaken : List Text → Type 0
AreTaken words = AreTakenBy vmsteer_line words

-- what is asked for
abbrev pub output_of : List Row → Output
output_of rows =
    if has_flag (codes "svg") rows then Drawing
    else if has_flag (codes "csv") rows then Samples Table
    else Samples Orders

-- what words ask for that are taken
abbrev pub output_by : List Text → Output
output_by words = output_of (asked vmsteer_line words)
