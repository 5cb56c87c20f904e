use Rattle.std.proofs.Common.{◌≡◌, ◌++◌, drop, length, map, string_bytes}
use Rattle.std.specs.List.{enumerate_from}
use Rattle.vm_sweep.specs.SweepDrawing.{swept_curve, swept_curves}
use Rattle.vm_sweep.proofs.charts.swept_curves.Given as goal

-- the names that are left complete the curves
abbrev pub invariant-loop-number : goal.invariant-loop-number
invariant-loop-number l =
    l.made.items ++ map (λ each. swept_curve l.measure l.seeds l.points l.curves each.0 each.1)
    (enumerate_from l.number (map string_bytes (drop l.number l.names)))
    ≡ swept_curves l.measure l.seeds (map string_bytes l.names) l.points
