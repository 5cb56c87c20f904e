use Rattle.std.proofs.Common.{◌∙◌, ap, arith, min}
use Rattle.vm_steer.specs.Deciding.{unmet_of}
use Rattle.vm_steer.proofs.SumLemmas.{step_total}
use Rattle.vm_steer.proofs.decide.unmet_in.Goals as goal

pub loop-row-preserved : goal.loop-row-preserved
loop-row-preserved c =
    let few = c.row-item.result.few_pages in (
      step_total unmet_of c.args.rows.now c.loop-row.row-index c.row-item.result c.loop-row.units c.min.result _ c.loop-row-test.true c.row-item.is
          (c.min.ensures ∙ ap (min c.row-item.result.demand) c.from.ensures) c.loop-row.invariant.0,
      omega arith,
    )
