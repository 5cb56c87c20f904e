use Rattle.std.proofs.Common.{◌≡◌, ◌+◌, ◌*◌, ◌≤◌, drop}
use Rattle.vm_plan.specs.PlanRow.{rows_of}
use Rattle.vm_steer.specs.Deciding.{unmet_in}
use Rattle.vm_steer.proofs.decide.unmet_in.Given as goal

-- the rows that are left complete the sum, and it is small
abbrev pub invariant-loop-row : goal.invariant-loop-row
invariant-loop-row l =
    (l.units + unmet_in (rows_of (drop l.row-index l.rows)) ≡ unmet_in (rows_of l.rows)) ×
    (l.units ≤ 262144 * l.row-index)
