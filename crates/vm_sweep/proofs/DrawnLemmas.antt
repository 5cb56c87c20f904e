-- The runs that are drawn.
use Rattle.std.proofs.Common.{◌≡◌, ◌∙◌, ℕ, List, ◌++◌, ap, append_assoc, map, sym}
use Rattle.std.proofs.lemmas.List.{map-append}
use Rattle.vm_config.specs.declared.config.Config.{Config}
use Rattle.vm_drawing.specs.Picture.{svg_of}
use Rattle.vm_sweep.specs.Combinations.{ValueLists, seed_count}
use Rattle.vm_sweep.specs.Drawn.{drawing_of, names_of, runs_of}
use Rattle.vm_sweep.specs.SweepDrawing.{sweep_drawing}
use Rattle.vm_sweep.specs.SweptRuns.{points_of}
use Rattle.vm_sweep.specs.declared.points.SweptPoint.{SweptPoint}

-- the runs of a round come behind those before it
pub more-runs : {X Y : Type 0} (f : X → Y) (before done after : List X) (old new whole : List Y) → before ≡ done ++ after
    → new ≡ old ++ map f done → old ++ map f before ≡ whole → new ++ map f after ≡ whole
more-runs f before done after old new whole at is so_far =
    ap (λ ys. ys ++ map f after) is ∙ append_assoc old (map f done) (map f after)
    ∙ ap (λ ys. old ++ ys) (sym (ap (map f) at ∙ map-append f done after)) ∙ so_far

-- the drawing of all runs
pub drawn-all : (lists : ValueLists) (config : Config) (page : ℕ) (names : List (List ℕ)) (points : List SweptPoint)
    → page ≡ config.machine.page → names ≡ names_of lists config → points ≡ points_of (seed_count lists.seeds) (runs_of lists config)
    → svg_of (sweep_drawing lists page names points) ≡ drawing_of lists config
unfolding drawing_of
drawn-all lists config page names points stands named made = (λ i. svg_of (sweep_drawing lists (stands i) (named i) (made i)))
