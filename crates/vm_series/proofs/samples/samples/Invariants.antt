use Rattle.std.proofs.Common.{◌≡◌, ◌++◌, drop}
use Rattle.vm_series.specs.Samples.{samples}
use Rattle.vm_series.proofs.samples.samples.Given as goal

-- the rows that are left complete the values
abbrev pub invariant-loop-row : goal.invariant-loop-row
invariant-loop-row l = l.values.items ++ samples l.measure (drop l.row-index l.rows) ≡ samples l.measure l.rows
