-- Which places are on an axis, and when those of a sweep are.
use Rattle.std.specs.Prelude.{ℕ, ◌<◌, ◌≤◌, List, length, slice_get}
use Rattle.vm_drawing.specs.declared.scale.Axis.{Axis}
use Rattle.vm_sweep.specs.declared.points.SweptPoint.{SweptPoint}
use Rattle.vm_sweep.specs.SweptRuns.{place_of}

-- no machine has fewer frames than one before it
abbrev pub FramesRise : List SweptPoint → Type 0
FramesRise points = (i j : ℕ) → i ≤ j → j < length points → place_of (slice_get points i) ≤ place_of (slice_get points j)

abbrev pub IsOnAxis : Axis → ℕ → Type 0
IsOnAxis axis place = (axis.first ≤ place) × (place ≤ axis.last)
