-- The drawing of a sweep, and what a sweep that is drawn, or isn't, has written.
use Rattle.std.specs.Prelude.{◌≡◌, ℕ, ◌+◌, List, map, Option, Err}
use Rattle.std.specs.Io.KnownBytes.{Keeps}
use Rattle.vm_config.specs.declared.config.Config.{Config as Configuration}
use Rattle.vm_config.specs.Reading.{config_of}
use Rattle.vm_drawing.specs.Picture.{svg_of}
use Rattle.vm_guest.specs.Record.{saturated}
use Rattle.vm_sim.specs.declared.run_error.RunError.{RunError}
use Rattle.vm_sim.specs.declared.run_error.RunError.TheVariants.{Config, Read, Write, Memory, Workers}
use Rattle.vm_sim.specs.Run.{MeansConfig}
use Rattle.vm_streams.specs.Streams.{AppendsFront}
use Rattle.vm_sweep.specs.Combinations.{ValueLists, combinations, rebalancing_of, seed_count, varied, variants}
use Rattle.vm_sweep.specs.CurveNames.{curve_names}
use Rattle.vm_sweep.specs.Orders.{Order, order_of}
use Rattle.vm_sweep.specs.declared.outcome.Detail.TheVariants.{Run}
use Rattle.vm_sweep.specs.SweepDrawing.{sweep_drawing}
use Rattle.vm_sweep.specs.SweptRuns.{points_of}
use Rattle.vm_sweep.specs.declared.runs.SweptRun.{SweptRun}
use Rattle.vm_tally.specs.Summary.{summary_of}
use Rattle.vm_tally.specs.declared.summary.Summary.{Summary}

-- what is drawn of a run on a machine of so many frames; a sum stops at the greatest number of 64 bits
abbrev pub swept_run : (frames : ℕ) → Summary → SweptRun
swept_run frames summary = record {
  frames = frames;
  moved = saturated (summary.paged + summary.evicted);
  waited = saturated (summary.blocked + summary.stalls);
}

-- what is drawn of a run that is wanted
abbrev pub swept_of : Order → SweptRun
swept_of order = swept_run order.variant.combination.frames (summary_of (varied order.variant order.base))

-- all runs, in order
abbrev pub runs_of : ValueLists → Configuration → List SweptRun
runs_of lists config = map swept_of (map (order_of (Run (rebalancing_of lists)) config) (variants lists config))

-- the names of the curves, one for each combination
abbrev pub names_of : ValueLists → Configuration → List (List ℕ)
names_of lists config = curve_names lists (combinations lists config)

-- the drawing of the sweep of a configuration
unfoldable pub drawing_of : ValueLists → Configuration → List ℕ
drawing_of lists config =
    svg_of (sweep_drawing lists config.machine.page (names_of lists config) (points_of (seed_count lists.seeds) (runs_of lists config)))

module _ (old new : Option (List ℕ)) where
  -- why this drawing was not written, or not all of it, and what was written by then
  abbrev pub FailsToDraw : (drawing : List ℕ) → RunError → Type 0
  FailsToDraw drawing Workers = ⊥
  FailsToDraw drawing Read = ⊥
  FailsToDraw drawing (Config fault) = ⊥
  FailsToDraw drawing Write = AppendsFront old new drawing
  FailsToDraw drawing Memory = Keeps old new

  -- why there is no drawing, or not all of it, and what was written by then
  abbrev pub FailsOnDrawing : ValueLists → List ℕ → RunError → Type 0
  FailsOnDrawing lists text Workers = ⊥
  FailsOnDrawing lists text Read = ⊥
  FailsOnDrawing lists text (Config fault) = Keeps old new × (config_of text ≡ Err fault)
  FailsOnDrawing lists text Write = MeansConfig (λ config. AppendsFront old new (drawing_of lists config)) text
  FailsOnDrawing lists text Memory = Keeps old new
