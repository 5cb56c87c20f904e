use Rattle.std.proofs.Common.{◌≡◌, ◌+◌, length}
use Rattle.vm_tax.specs.Ratio.{hundredths}
use Rattle.vm_plan.specs.PlanRow.{rows_of}
use Rattle.vm_plan.specs.Moves.{EachMove}
use Rattle.vm_plan.specs.Rebalancing.{IsNextGiver, rows_given}
use Rattle.vm_plan.specs.Sides.{AreSides}
use Rattle.vm_plan.proofs.rebalance.rebalancing.Given as goal

-- the rows and the prices are those after the entries so far, and each of these was the next giver
abbrev pub invariant-loop-left : goal.invariant-loop-left
invariant-loop-left l = record {
  rows : rows_of l.after.items ≡ rows_given (hundredths l.tax) (rows_of l.fn.rows) l.plan;
  sides : AreSides l.tax (rows_of l.after.items) l.givers l.takers;
  each_next : EachMove (λ before giver. IsNextGiver (hundredths l.tax) (rows_given (hundredths l.tax) (rows_of l.fn.rows) before) giver) l.plan;
  turns : length l.plan + l.left ≡ l.limit;
  few : length l.after.items ≡ length l.fn.rows;
}

abbrev pub decreases-loop-left : goal.decreases-loop-left
decreases-loop-left l = l.left
