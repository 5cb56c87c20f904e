use Rattle.std.proofs.Common.{◌≡◌, ◌++◌, drop}
use Rattle.vm_steer_charts.specs.Values.{frees}
use Rattle.vm_steer_charts.proofs.values.frees.Given as goal

-- the rows that are left complete the values
abbrev pub invariant-loop-row : goal.invariant-loop-row
invariant-loop-row l = l.values.items ++ frees (drop l.row-index l.rows) ≡ frees l.rows
