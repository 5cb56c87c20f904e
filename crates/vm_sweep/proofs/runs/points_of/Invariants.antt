use Rattle.std.proofs.Common.{◌≡◌, map}
use Rattle.std.specs.List.{range_with_len}
use Rattle.vm_sweep.specs.SweptRuns.{point_of, runs_at}
use Rattle.vm_sweep.proofs.runs.points_of.Given as goal

-- those of the runs so far
abbrev pub invariant-loop-point : goal.invariant-loop-point
invariant-loop-point l = l.points.items ≡ map (λ point. point_of (runs_at l.runs l.seeds point)) (range_with_len 0 l.point)
