use Rattle.std.proofs.Common.{arith}
use Rattle.vm_plan.specs.Row.{Row}
use Rattle.vm_steer.proofs.SumLemmas.{step_total}
use Rattle.vm_steer.proofs.decide.total_targets.Goals as goal

pub loop-row-preserved : goal.loop-row-preserved
loop-row-preserved c = (
  step_total (λ (row : Row). row.target) c.args.rows.now c.loop-row.row-index c.row-item.result c.loop-row.total c.from-total.result _ c.loop-row-test.true c.row-item.is c.from-total.ensures c.loop-row.invariant.0,
  omega arith,
)
