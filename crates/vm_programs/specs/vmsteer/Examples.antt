-- What words say to `vmsteer`, by examples.
use Rattle.std.specs.Prelude.{◌≡◌, List, ◌∷◌, codes}
use Rattle.clap.specs.Words.{Text}
use Rattle.vm_programs.specs.declared.vmsteer.output.Output.{Output}
use Rattle.vm_programs.specs.declared.vmsteer.output.Output.TheVariants.{Drawing, Samples}
use Rattle.vm_steer.specs.declared.form.Form.TheVariants.{Orders, Table}
use Rattle.vm_programs.specs.vmsteer.CommandLine.{AreTaken, output_by}

abbrev pub orders : Output
orders = Samples Orders

abbrev pub table : Output
table = Samples Table

abbrev pub drawing : Output
drawing = Drawing

-- these words behind the program's name
abbrev pub called : List Text → List Text
called words = codes "vmsteer" ∷ words

-- they are taken, and ask for this
pub record AskFor (words : List Text) (output : Output) : Type 0 where
  pub taken : AreTaken (called words)
  pub asked : output_by (called words) ≡ output

-- they are not taken
abbrev pub AreRefused : List Text → Type 0
AreRefused words = AreTaken (called words) → ⊥
