use Rattle.std.proofs.Common.{◌-◌, ◌<◌, ◌≤◌}
use Rattle.vm_tax.specs.Ratio.{hundredths}
use Rattle.vm_plan.specs.PlanRow.{row_of, rows_of}
use Rattle.vm_plan.specs.Runs.{GoesOn}
use Rattle.vm_plan.proofs.rebalancing_runs.count_going.Given as goal

-- after the lesser number of pages the next one goes the same way
abbrev pub invariant-loop-low : goal.invariant-loop-low
invariant-loop-low l = record {
  within : l.low ≤ l.high;
  fewer : l.high < l.most;
  last : 0 < l.low → GoesOn (hundredths l.tax) (rows_of l.rows) (row_of l.giver) (row_of l.taker) l.transfer.giver l.transfer.taker l.rivals.giver l.rivals.taker l.low;
}

abbrev pub decreases-loop-low : goal.decreases-loop-low
decreases-loop-low l = l.high - l.low
