use Rattle.std.proofs.Common.{◌≡◌, ◌++◌, drop}
use Rattle.vm_steer_charts.specs.Values.{values}
use Rattle.vm_steer_charts.proofs.values.values.Given as goal

-- the rows that are left complete the values
abbrev pub invariant-loop-row : goal.invariant-loop-row
invariant-loop-row l = l.values.items ++ values l.measure l.name (drop l.row-index l.rows) ≡ values l.measure l.name l.rows
