use Rattle.std.proofs.Common.{◌≡◌, map}
use Rattle.std.specs.List.{range_with_len}
use Rattle.vm_sweep.specs.SweptRuns.{median_at}
use Rattle.vm_sweep.proofs.points.values_of.Given as goal

-- those of the machines so far
abbrev pub invariant-loop-machine : goal.invariant-loop-machine
invariant-loop-machine l = l.values.items ≡ map (median_at l.measure l.points l.curves l.curve) (range_with_len 0 l.machine)
