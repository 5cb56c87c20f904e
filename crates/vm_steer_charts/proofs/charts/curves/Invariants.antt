use Rattle.std.proofs.Common.{◌≡◌, ◌++◌, drop, map}
use Rattle.vm_steer_charts.specs.Charts.{curves_from}
use Rattle.vm_steer_charts.proofs.charts.curves.Given as goal

-- the names that are left complete the curves
abbrev pub invariant-loop-number : goal.invariant-loop-number
invariant-loop-number l =
    l.curves.items ++ curves_from l.measure l.rows l.number (drop l.number (map (λ n. n.items) l.names))
    ≡ curves_from l.measure l.rows 0 (map (λ n. n.items) l.names)
