use Rattle.vm_plan.proofs.GrantRunLemmas.{held_in}
use Rattle.vm_steer.specs.Deciding.{coming_from}
use Rattle.vm_steer.proofs.SumLemmas.{step_less}
use Rattle.vm_steer.proofs.decide.less_coming.Goals as goal

pub loop-row-preserved : goal.loop-row-preserved
loop-row-preserved c =
    step_less coming_from c.args.rows.now c.loop-row.row-index c.row-item.result c.loop-row.left c.coming_from.result _ _ c.loop-row-test.true c.row-item.is c.coming_from.ensures c.saturating_sub-left.ensures c.loop-row.invariant

pub coming_from-requires : goal.coming_from-requires
coming_from-requires c = held_in c.args.rows.now c.loop-row.row-index c.row-item.result c.loop-row-test.true c.row-item.is c.requires
