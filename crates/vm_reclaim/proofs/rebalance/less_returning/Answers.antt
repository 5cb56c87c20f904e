use Rattle.std.proofs.Common.{◌∙◌, ◌+◌, ◌-◌, ap, arith, drop}
use Rattle.std.proofs.lemmas.List.{length-map}
use Rattle.vm_plan.specs.PlanRow.{row_of, rows_of}
use Rattle.vm_reclaim.specs.Planning.{drivers_of, own_driver_in, returning_in}
use Rattle.vm_reclaim.proofs.FloorLemmas.{driver-read, step-returning}
use Rattle.vm_reclaim.proofs.PlanningLemmas.{here-read}
use Rattle.vm_reclaim.proofs.rebalance.less_returning.Goals as goal

pub loop-position-preserved : goal.loop-position-preserved
loop-position-preserved c =
    let i = c.loop-position.position in
    let rows = c.args.rows.now in
    let guests = c.args.pool.now.guests in
    let row = c.index-rows-position.result in
    let own = c.has_own_driver_at-own_driver.result in
    let before = c.loop-position-test.true in
    let ends = c.loop-position.invariant.ends in
    let long = c.requires in
    let rows_wide = length-map rows row_of in
    let guests_wide = length-map guests own_driver_in in
    record {
      ends = ends;
      done = ap (λ n. n - returning_in (drop (i + 1) (drivers_of guests)) (drop (i + 1) (rows_of rows))) c.saturating_sub-left.ensures
          ∙ step-returning (drivers_of guests) (rows_of rows) i own (row_of row) c.loop-position.left c.returning.result _ (omega (arith, before, ends, long, guests_wide)) (omega (arith, before, ends, rows_wide))
          (driver-read guests i own (omega (arith, before, ends, long)) c.has_own_driver_at-own_driver.ensures) (here-read rows i row (omega (arith, before, ends)) c.index-rows-position.is) c.returning.ensures c.loop-position.invariant.done;
    }
