use Rattle.std.proofs.Common.{◌≡◌, ◌∙◌, ℕ, ◌+◌, ◌*◌, ◌<◌, ◌≤◌, ◌^◌, ap, arith, length, min}
use Rattle.vm_plan.specs.PlanRow.{rows_of}
use Rattle.vm_reclaim.specs.Planning.{unmet_in}
use Rattle.vm_reclaim.proofs.FloorLemmas.{few-unmet, step-unmet}
use Rattle.vm_reclaim.proofs.rebalance.unmet_demand.Goals as goal

pub loop-row-preserved : goal.loop-row-preserved
loop-row-preserved c =
    step-unmet c.args.rows.now c.loop-row.row-index c.row-item.result c.loop-row.pages c.min.result _ c.loop-row-test.true c.row-item.is
    (c.min.ensures ∙ ap (min c.row-item.result.demand) c.from.ensures) c.loop-row.invariant

-- the sum is no more than all caps
fits : (pages taken later whole rows : ℕ) → pages + taken + later ≡ whole → whole ≤ rows * 262144 → rows ≤ 256 → pages + taken < 2 ^ 32
fits pages taken later whole rows done most few = omega (arith, done, most, few)

pub overflow_add-pages : goal.overflow_add-pages
overflow_add-pages c =
    let rows = c.args.rows.now in
    let done = step-unmet rows c.loop-row.row-index c.row-item.result c.loop-row.pages c.min.result _ c.loop-row-test.true c.row-item.is
    (c.min.ensures ∙ ap (min c.row-item.result.demand) c.from.ensures) c.loop-row.invariant in
    let small = fits c.loop-row.pages c.min.result _ (unmet_in (rows_of rows)) (length rows) done (few-unmet rows) c.requires in
    omega (arith, small)
