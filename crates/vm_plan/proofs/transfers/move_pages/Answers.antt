use Rattle.std.proofs.Common.{◌≡◌, ℕ, ◌+◌, ◌<◌, ◌≤◌, ◌∙◌, List, Option, Some, IsSomeAnd, length, slice_get, ap, sym, subst}
use Rattle.std.proofs.lemmas.List.{length-map}
use Rattle.std.proofs.lemmas.Option.{slice_get_within}
use Rattle.vm_tax.specs.Ratio.{hundredths}
use Rattle.vm_plan.specs.declared.row.PlanRow.{PlanRow}
use Rattle.vm_plan.specs.PlanRow.{row_of, rows_of}
use Rattle.vm_plan.specs.Row.{Row, change_at}
use Rattle.vm_plan.specs.Runs.{lowered_row, raised_row, IsFlow}
use Rattle.vm_plan.specs.Sides.{AreGrown, AreOwn}
use Rattle.vm_plan.proofs.ChangeLemmas.{row_unchanged}
use Rattle.vm_plan.proofs.FlowLemmas.{first_flows, flow_room, grown_flows, own_flows, two_of}
use Rattle.vm_plan.proofs.GrantLemmas.{plan_row_fact}
use Rattle.vm_plan.proofs.RowLemmas.{plan_rows-have_shares}
use Rattle.vm_plan.proofs.SideLemmas.{grown_taker, own_giver}
use Rattle.vm_plan.proofs.transfers.move_pages.Goals as goal

row_there : (rows : List PlanRow) (k : ℕ) (row : Row) → slice_get (rows_of rows) k ≡ Some row → k < length rows
row_there rows k row at = subst (λ (n : ℕ). k < n) (length-map rows row_of) (slice_get_within (rows_of rows) k row at)

-- who takes is as before once the other one gave
taker_same : (tax : ℕ) (rows new : List PlanRow) (giver taker count : ℕ) → IsFlow (hundredths tax) (rows_of rows) giver taker count → rows_of new ≡ change_at (lowered_row count) (rows_of rows) giver
    → slice_get (rows_of new) taker ≡ slice_get (rows_of rows) taker
taker_same tax rows new giver taker count f is =
    let two = two_of (hundredths tax) (rows_of rows) giver taker (first_flows (hundredths tax) (rows_of rows) giver taker count f) in
    ap (λ (xs : List Row). slice_get xs taker) is ∙ row_unchanged (lowered_row count) (rows_of rows) giver taker (λ e. two.two (sym e))

pub give_pages-requires-clause-within : goal.give_pages-requires-clause-within
give_pages-requires-clause-within c =
    let tax = hundredths c.args.tax in
    let rows = rows_of c.args.rows.now in
    let two = two_of tax rows c.args.transfer.giver c.args.transfer.taker (first_flows tax rows c.args.transfer.giver c.args.transfer.taker c.args.count c.requires.flow) in
    row_there c.args.rows.now c.args.transfer.giver two.from two.from_at

pub give_pages-requires-clause-above : goal.give_pages-requires-clause-above
give_pages-requires-clause-above c =
    let room = flow_room (hundredths c.args.tax) (rows_of c.args.rows.now) c.args.transfer.giver c.args.transfer.taker c.args.count c.requires.flow in
    plan_row_fact (λ row. row.min + c.args.count ≤ row.target) c.args.rows.now c.args.transfer.giver room.above

pub give_pages-requires-clause-side : goal.give_pages-requires-clause-side
give_pages-requires-clause-side c =
    let tax = hundredths c.args.tax in
    let rows = c.args.rows.now in
    let sides = c.requires.sides in
    let first = first_flows tax (rows_of rows) c.args.transfer.giver c.args.transfer.taker c.args.count c.requires.flow in
    record {
      side = sides.own;
      tracked = sides.giving;
      same = sym (own_giver tax (rows_of rows) sides.own c.args.transfer.giver c.args.transfer.taker (plan_rows-have_shares rows) first sides.are_own);
    }

pub take_pages-requires-clause-within : goal.take_pages-requires-clause-within
take_pages-requires-clause-within c =
    let tax = hundredths c.args.tax in
    let rows = c.args.rows.now in
    let two = two_of tax (rows_of rows) c.args.transfer.giver c.args.transfer.taker (first_flows tax (rows_of rows) c.args.transfer.giver c.args.transfer.taker c.args.count c.requires.flow) in
    let same = taker_same c.args.tax rows c.give_pages.new.rows c.args.transfer.giver c.args.transfer.taker c.args.count c.requires.flow c.give_pages.ensures.given in
    row_there c.give_pages.new.rows c.args.transfer.taker two.to (same ∙ two.to_at)

pub take_pages-requires-clause-demand : goal.take_pages-requires-clause-demand
take_pages-requires-clause-demand c =
    let room = flow_room (hundredths c.args.tax) (rows_of c.args.rows.now) c.args.transfer.giver c.args.transfer.taker c.args.count c.requires.flow in
    let same = taker_same c.args.tax c.args.rows.now c.give_pages.new.rows c.args.transfer.giver c.args.transfer.taker c.args.count c.requires.flow c.give_pages.ensures.given in
    plan_row_fact (λ row. c.args.count ≤ row.demand) c.give_pages.new.rows c.args.transfer.taker (subst (λ (o : Option Row). IsSomeAnd o (λ row. c.args.count ≤ row.demand)) (sym same) room.demand)

pub take_pages-requires-clause-room : goal.take_pages-requires-clause-room
take_pages-requires-clause-room c =
    let room = flow_room (hundredths c.args.tax) (rows_of c.args.rows.now) c.args.transfer.giver c.args.transfer.taker c.args.count c.requires.flow in
    let same = taker_same c.args.tax c.args.rows.now c.give_pages.new.rows c.args.transfer.giver c.args.transfer.taker c.args.count c.requires.flow c.give_pages.ensures.given in
    plan_row_fact (λ row. row.target + c.args.count ≤ row.cap) c.give_pages.new.rows c.args.transfer.taker (subst (λ (o : Option Row). IsSomeAnd o (λ row. row.target + c.args.count ≤ row.cap)) (sym same) room.room)

pub take_pages-requires-clause-side : goal.take_pages-requires-clause-side
take_pages-requires-clause-side c =
    let tax = hundredths c.args.tax in
    let rows = c.args.rows.now in
    let sides = c.requires.sides in
    let first = first_flows tax (rows_of rows) c.args.transfer.giver c.args.transfer.taker c.args.count c.requires.flow in
    let same = taker_same c.args.tax rows c.give_pages.new.rows c.args.transfer.giver c.args.transfer.taker c.args.count c.requires.flow c.give_pages.ensures.given in
    record {
      side = sides.grown;
      tracked = sides.taking;
      same = sym (same ∙ grown_taker tax (rows_of rows) sides.grown c.args.transfer.giver c.args.transfer.taker (plan_rows-have_shares rows) first sides.are_grown);
    }

pub returns-clause-moved : goal.returns-clause-moved
returns-clause-moved c = c.take_pages.ensures.taken ∙ ap (λ (xs : List Row). change_at (raised_row c.args.count) xs c.args.transfer.taker) c.give_pages.ensures.given

pub returns-clause-sides : goal.returns-clause-sides
returns-clause-sides c =
    let tax = hundredths c.args.tax in
    let rows = c.args.rows.now in
    let giver = c.args.transfer.giver in
    let taker = c.args.transfer.taker in
    let count = c.args.count in
    let sides = c.requires.sides in
    let shares = plan_rows-have_shares rows in
    let moved = returns-clause-moved c in
    let first = first_flows tax (rows_of rows) giver taker count c.requires.flow in
    let same = taker_same c.args.tax rows c.give_pages.new.rows giver taker count c.requires.flow c.give_pages.ensures.given in
    record {
      own = change_at (lowered_row count) sides.own giver;
      grown = change_at (raised_row count) sides.grown taker;
      are_own = subst (λ (xs : List Row). AreOwn tax xs (change_at (lowered_row count) sides.own giver)) (sym moved) (own_flows tax (rows_of rows) sides.own giver taker count shares c.requires.flow sides.are_own);
      are_grown = subst (λ (xs : List Row). AreGrown tax xs (change_at (raised_row count) sides.grown taker)) (sym moved) (grown_flows tax (rows_of rows) sides.grown giver taker count shares c.requires.flow sides.are_grown);
      giving = c.give_pages.ensures.side sides.own (sym (own_giver tax (rows_of rows) sides.own giver taker shares first sides.are_own)) sides.giving;
      taking = c.take_pages.ensures.side sides.grown (sym (same ∙ grown_taker tax (rows_of rows) sides.grown giver taker shares first sides.are_grown)) sides.taking;
    }
