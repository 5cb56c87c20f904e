use Rattle.std.proofs.Common.{◌-◌, ◌≤◌}
use Rattle.vm_tax.specs.Price.{ratio_of}
use Rattle.vm_tax.specs.Ratio.{hundredths}
use Rattle.vm_plan.specs.PlanRow.{row_of}
use Rattle.vm_plan.specs.Runs.{IsBehind}
use Rattle.vm_plan.proofs.revocation_runs.least_behind.Given as goal

-- with the greater number of pages the guest is taken from before the other one
abbrev pub invariant-loop-low : goal.invariant-loop-low
invariant-loop-low l = record {
  from : l.limit ≤ l.low;
  within : l.low ≤ l.high;
  to : l.high ≤ l.row.target;
  behind : IsBehind (hundredths l.tax) (row_of l.row) l.position l.high (ratio_of l.rival) l.other;
}

abbrev pub decreases-loop-low : goal.decreases-loop-low
decreases-loop-low l = l.high - l.low
