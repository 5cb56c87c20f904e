use Rattle.std.proofs.Common.{◌≡◌, ◌+◌, ◌*◌, ◌≤◌, ◌^◌, drop}
use Rattle.vm_plan.specs.PlanRow.{rows_of}
use Rattle.vm_steer.specs.Deciding.{total_held}
use Rattle.vm_steer.proofs.decide.total_held.Given as goal

-- the rows that are left complete the sum, and it is small
abbrev pub invariant-loop-row : goal.invariant-loop-row
invariant-loop-row l =
    (l.total + total_held (rows_of (drop l.row-index l.rows)) ≡ total_held (rows_of l.rows)) ×
    (l.total ≤ 2 ^ 32 * l.row-index)
