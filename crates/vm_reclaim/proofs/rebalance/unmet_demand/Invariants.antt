use Rattle.std.proofs.Common.{◌≡◌, ◌+◌, drop}
use Rattle.vm_plan.specs.PlanRow.{rows_of}
use Rattle.vm_reclaim.specs.Planning.{unmet_in}
use Rattle.vm_reclaim.proofs.rebalance.unmet_demand.Given as goal

-- the rows that are left complete the sum
abbrev pub invariant-loop-row : goal.invariant-loop-row
invariant-loop-row l = l.pages + unmet_in (rows_of (drop l.row-index l.rows)) ≡ unmet_in (rows_of l.rows)
