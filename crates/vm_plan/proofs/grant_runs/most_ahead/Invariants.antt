use Rattle.std.proofs.Common.{◌-◌, ◌≤◌}
use Rattle.vm_tax.specs.Price.{ratio_of}
use Rattle.vm_tax.specs.Ratio.{hundredths}
use Rattle.vm_plan.specs.PlanRow.{row_of}
use Rattle.vm_plan.specs.Runs.{IsAhead}
use Rattle.vm_plan.proofs.grant_runs.most_ahead.Given as goal

-- with the lesser number of pages the guest comes before the other one
abbrev pub invariant-loop-low : goal.invariant-loop-low
invariant-loop-low l = record {
  from : l.row.target ≤ l.low;
  within : l.low ≤ l.high;
  to : l.high ≤ l.limit;
  ahead : IsAhead (hundredths l.tax) (row_of l.row) l.position l.low (ratio_of l.rival) l.other;
}

abbrev pub decreases-loop-low : goal.decreases-loop-low
decreases-loop-low l = l.high - l.low
