-- What is written of a run, and what the exit status 3 says of the reader and the writer.
use Rattle.std.specs.Prelude.{◌≡◌, ℕ, Bool, true, false, List, Option, Err}
use Rattle.std.specs.Io.KnownBytes.{Appends, Keeps}
use Rattle.vm_drawing.specs.Picture.{svg_of}
use Rattle.vm_series.specs.Series.{drawing_of}
use Rattle.vm_config.specs.Reading.{config_of}
use Rattle.vm_series.specs.Csv.{csv_text}
use Rattle.vm_series.specs.Rows.{Rows, rows_of}
use Rattle.vm_programs.specs.runs.Statuses.{StopsWith}
use Rattle.vm_sim.specs.declared.run_error.RunError.{RunError}
use Rattle.vm_sim.specs.declared.run_error.RunError.TheVariants.{Config, Read, Write, Memory, Workers}
use Rattle.vm_sim.specs.Run.{MeansConfig}
use Rattle.vm_streams.specs.Streams.{AppendsFront}

-- the text is a drawing of the rows, or has them as comma-separated values
abbrev pub IsTextOf : (is_drawn : Bool) → Rows → List ℕ → Type 0
IsTextOf true rows text = text ≡ svg_of (drawing_of rows)
IsTextOf false rows text = text ≡ csv_text rows

module _ (old new : Option (List ℕ)) (is_drawn : Bool) where
  -- such a text was written, and nothing else
  abbrev pub Writes : Rows → Type 0
  Writes rows = (text : List ℕ) × IsTextOf is_drawn rows text × Appends old new text

  -- a front of such a text was written, and nothing else
  abbrev pub WritesFrontOf : Rows → Type 0
  WritesFrontOf rows = (text : List ℕ) × IsTextOf is_drawn rows text × AppendsFront old new text

  -- why a text that was read was not run, or its series not written, and what was written by then
  abbrev pub FailsOnSeries : List ℕ → RunError → Type 0
  FailsOnSeries text Workers = ⊥
  FailsOnSeries text Read = ⊥
  FailsOnSeries text (Config fault) = Keeps old new × (config_of text ≡ Err fault)
  FailsOnSeries text Write = MeansConfig (λ config. WritesFrontOf (rows_of config)) text
  FailsOnSeries text Memory = Keeps old new

-- a front of the series of the configuration that was read was written, or nothing
abbrev pub StopsEarly : (read_old read_new written_old written_new : Option (List ℕ)) → (is_drawn : Bool) → Type 0
StopsEarly read_old read_new written_old written_new is_drawn =
    StopsWith read_old read_new written_old written_new (λ config. WritesFrontOf written_old written_new is_drawn (rows_of config))
