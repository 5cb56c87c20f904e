use Rattle.std.proofs.Common.{◌≡◌, ◌∙◌, ap, arith, get_or, sym}
use Rattle.std.proofs.lemmas.List.{length-map, length-set, map-set}
use Rattle.vm_plan.specs.PlanRow.{row_of, rows_of}
use Rattle.vm_reclaim.specs.Planning.{drivers_of, own_driver_in}
use Rattle.vm_reclaim.specs.Rebalance.{giving_row}
use Rattle.vm_reclaim.proofs.FloorLemmas.{driver-read, end-floored, step-floored}
use Rattle.vm_reclaim.proofs.PlanningLemmas.{here-read}
use Rattle.vm_reclaim.proofs.rebalance.raise_floors.Goals as goal

pub loop-position-preserved : goal.loop-position-preserved
loop-position-preserved c =
    let i = c.loop-position.position in
    let now = c.loop-position.rows in
    let old = c.args.rows.now in
    let guests = c.args.pool.now.guests in
    let read_row = c.index-rows-position.result in
    let own = c.has_own_driver_at-own_driver.result in
    let new = c.raise_floor.new.row in
    let before = c.loop-position-test.true in
    let ends = c.loop-position.invariant.ends in
    let few = c.loop-position.invariant.few in
    let long = c.requires in
    let rows_wide = length-map old row_of in
    let guests_wide = length-map guests own_driver_in in
    let read = here-read now i read_row (omega (arith, before, ends, few)) c.index-rows-position.is in
    let same : row_of (get_or now i read_row) ≡ row_of read_row = ap row_of (sym c.index-rows-position.is) in
    record {
      ends = ends;
      few = length-set now i new ∙ few;
      rows = map-set row_of now i new
          ∙ step-floored (rows_of now) (rows_of old) (drivers_of guests) i own (row_of new) (row_of read_row) c.loop-position.invariant.rows (omega (arith, rows_wide, guests_wide, long)) (omega (arith, before, ends, rows_wide))
          (driver-read guests i own (omega (arith, before, ends, long)) c.has_own_driver_at-own_driver.ensures) (c.raise_floor.ensures ∙ ap (giving_row own) (same ∙ sym read));
    }

pub returns : goal.returns
returns c =
    let old = c.args.rows.now in
    let guests = c.args.pool.now.guests in
    let rows_wide = length-map old row_of in
    let guests_wide = length-map guests own_driver_in in
    let ends = c.loop-position.invariant.ends in
    let within = c.loop-position.auto.position-end in
    let past = c.loop-position-test.false in
    let long = c.requires in
    end-floored (rows_of c.loop-position.rows) (rows_of old) (drivers_of guests) c.loop-position.position c.loop-position.invariant.rows (omega (arith, rows_wide, guests_wide, long))
    (omega (arith, within, ends, rows_wide)) (omega (arith, past, ends, rows_wide))
