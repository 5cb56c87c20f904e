use Rattle.std.proofs.Common.{◌≡◌, ◌+◌, length}
use Rattle.vm_tax.specs.Ratio.{hundredths}
use Rattle.vm_tax.specs.Offers.{IsLeast}
use Rattle.vm_plan.specs.Row.{revocable_ratios}
use Rattle.vm_plan.specs.PlanRow.{rows_of}
use Rattle.vm_plan.specs.Moves.{EachMove}
use Rattle.vm_plan.specs.Revocation.{rows_after}
use Rattle.vm_plan.specs.Track.{IsTracked}
use Rattle.vm_plan.specs.declared.tracking.Kind.TheVariants.{Revocable}
use Rattle.vm_plan.proofs.SumLemmas.{total_target}
use Rattle.vm_plan.proofs.revocation.revocations.Given as goal

-- the rows and the prices are those after the moves so far, each of these took from the least, and together they lowered targets by as many pages
abbrev pub invariant-loop-left : goal.invariant-loop-left
invariant-loop-left l = record {
  rows : rows_of l.after.items ≡ rows_after (rows_of l.fn.rows) l.plan;
  tracked : IsTracked Revocable l.tax l.winners (rows_of l.after.items);
  each_least : EachMove (λ before position. IsLeast (revocable_ratios (hundredths l.tax) (rows_after (rows_of l.fn.rows) before)) position) l.plan;
  turns : length l.plan + l.left ≡ l.wanted;
  targets : total_target (rows_of l.after.items) + length l.plan ≡ total_target (rows_of l.fn.rows);
}

abbrev pub decreases-loop-left : goal.decreases-loop-left
decreases-loop-left l = l.left
