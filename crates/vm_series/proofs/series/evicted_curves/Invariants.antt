use Rattle.std.proofs.Common.{◌≡◌}
use Rattle.std.specs.List.{flat_map, range_with_len}
use Rattle.vm_series.specs.Series.{evicted_curve}
use Rattle.vm_series.proofs.series.evicted_curves.Given as goal

-- the guests so far
abbrev pub invariant-loop-position : goal.invariant-loop-position
invariant-loop-position l = l.curves.items ≡ flat_map (evicted_curve l.series) (range_with_len 0 l.position)
