-- The runs of a sweep that is drawn: machine by machine, on each combination by combination, and of each seed by seed. Run number
-- (m * curves + c) * seeds + s is that of machine m, combination c and seed s; point number m * curves + c is what comes of all its seeds.
use Rattle.std.specs.Prelude.{ℕ, ◌+◌, ◌*◌, ◌/◌, List, Option, None, Some, drop, length, map, option_map, slice_get, take}
use Rattle.std.specs.List.{range_with_len}
use Rattle.vm_drawing.specs.declared.spread.Spread.{Spread}
use Rattle.vm_sweep.specs.Medians.{over_seeds}
use Rattle.vm_sweep.specs.declared.median.OverSeeds.{OverSeeds}
use Rattle.vm_sweep.specs.declared.points.Measure.{Measure}
use Rattle.vm_sweep.specs.declared.points.Measure.TheVariants.{Moved, Waited}
use Rattle.vm_sweep.specs.declared.points.SweptPoint.{SweptPoint}
use Rattle.vm_sweep.specs.declared.runs.SweptRun.{SweptRun}

-- ---- points

-- the runs of a machine and a combination
abbrev pub runs_at : List SweptRun → (seeds point : ℕ) → List SweptRun
runs_at runs seeds point = take seeds (drop (point * seeds) runs)

-- the frames of a run's machine
abbrev pub frames_of : Option SweptRun → ℕ
frames_of None = 0
frames_of (Some run) = run.frames

-- what is drawn of the runs of a machine and a combination
abbrev pub point_of : List SweptRun → SweptPoint
point_of runs = record {
  frames = frames_of (slice_get runs 0);
  moved = over_seeds (map (λ run. run.moved) runs);
  waited = over_seeds (map (λ run. run.waited) runs);
}

abbrev pub points_of : (seeds : ℕ) → List SweptRun → List SweptPoint
points_of seeds runs = map (λ point. point_of (runs_at runs seeds point)) (range_with_len 0 (length runs / seeds))

-- ---- curves

-- how many machines have a point for each combination
abbrev pub machine_count : List SweptPoint → (curves : ℕ) → ℕ
machine_count points curves = length points / curves

-- the point of a machine and a combination
abbrev pub point_at : List SweptPoint → (curves machine curve : ℕ) → Option SweptPoint
point_at points curves machine curve = slice_get points (machine * curves + curve)

-- what a curve shows of a point
abbrev pub measured : Measure → SweptPoint → OverSeeds
measured Moved point = point.moved
measured Waited point = point.waited

-- where a point stands: at the frames of its machine
abbrev pub place_of : Option SweptPoint → ℕ
place_of None = 0
place_of (Some point) = point.frames

abbrev pub median_at : Measure → List SweptPoint → (curves curve machine : ℕ) → Option ℕ
median_at measure points curves curve machine = option_map (λ p. (measured measure p).median) (point_at points curves machine curve)

abbrev pub spread_at : Measure → List SweptPoint → (curves curve machine : ℕ) → Option Spread
spread_at measure points curves curve machine = option_map (λ p. (measured measure p).spread) (point_at points curves machine curve)

-- what a combination has on each machine
abbrev pub values_of : Measure → List SweptPoint → (curves curve : ℕ) → List (Option ℕ)
values_of measure points curves curve = map (median_at measure points curves curve) (range_with_len 0 (machine_count points curves))

-- from where to where
abbrev pub spreads_of : Measure → List SweptPoint → (curves curve : ℕ) → List (Option Spread)
spreads_of measure points curves curve = map (spread_at measure points curves curve) (range_with_len 0 (machine_count points curves))

-- and where it stands
abbrev pub places_of : List SweptPoint → (curves curve : ℕ) → List ℕ
places_of points curves curve =
    map (λ machine. place_of (point_at points curves machine curve)) (range_with_len 0 (machine_count points curves))
