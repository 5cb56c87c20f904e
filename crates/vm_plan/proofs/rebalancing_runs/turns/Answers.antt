use Rattle.std.proofs.Common.{◌≡◌, ◌+◌, ◌<◌, ◌≤◌, ℕ, List, Option, Some, IfSome, IsSomeAnd, length, sym, subst, arith, ◌∙◌}
use Rattle.std.proofs.lemmas.List.{length-map}
use Rattle.std.proofs.lemmas.Option.{same_Some, slice_get_within}
use Rattle.vm_tax.specs.Ratio.{Tax, hundredths}
use Rattle.vm_plan.specs.declared.row.PlanRow.{PlanRow}
use Rattle.vm_plan.specs.PlanRow.{row_of, rows_of}
use Rattle.vm_plan.specs.Rebalancing.{IsTransfer}
use Rattle.vm_plan.specs.Row.{Row}
use Rattle.vm_plan.proofs.FlowLemmas.{flow_of, giving_within, taking_room, taking_within}
use Rattle.vm_plan.proofs.GrantLemmas.{row_at}
use Rattle.vm_plan.proofs.RowLemmas.{plan_rows-have_shares}
use Rattle.vm_plan.proofs.SideLemmas.{grown_taker, own_giver}
use Rattle.vm_plan.proofs.TransferLemmas.{parties}
use Rattle.vm_plan.proofs.rebalancing_runs.turns.Goals as goal

giver_within : (tax : Tax) (rows : List PlanRow) (giver taker : ℕ) → IsTransfer tax (rows_of rows) giver taker → giver < length rows
giver_within tax rows giver taker t =
    let p = parties tax (rows_of rows) giver taker t in
    subst (λ (n : ℕ). giver < n) (length-map rows row_of) (slice_get_within (rows_of rows) giver p.from p.from_at)

taker_within : (tax : Tax) (rows : List PlanRow) (giver taker : ℕ) → IsTransfer tax (rows_of rows) giver taker → taker < length rows
taker_within tax rows giver taker t =
    let p = parties tax (rows_of rows) giver taker t in
    subst (λ (n : ℕ). taker < n) (length-map rows row_of) (slice_get_within (rows_of rows) taker p.to p.to_at)

at_row : (P : Row → Type 0) (o : Option Row) (row : Row) → o ≡ Some row → P row → IsSomeAnd o P
at_row P o row at h = subst (λ (x : Option Row). IsSomeAnd x P) (sym at) h

pub bounds-rows-transfer : goal.bounds-rows-transfer
bounds-rows-transfer c = giver_within (hundredths c.args.tax) c.args.rows.now c.args.transfer.giver c.args.transfer.taker c.requires.next

pub bounds-rows-transfer-2 : goal.bounds-rows-transfer-2
bounds-rows-transfer-2 c = taker_within (hundredths c.args.tax) c.args.rows.now c.args.transfer.giver c.args.transfer.taker c.requires.next

pub most_between-most-requires-clause-above : goal.most_between-most-requires-clause-above
most_between-most-requires-clause-above c =
    let tax = hundredths c.args.tax in
    let rows = c.args.rows.now in
    let p = parties tax (rows_of rows) c.args.transfer.giver c.args.transfer.taker c.requires.next in
    let there = giver_within tax rows c.args.transfer.giver c.args.transfer.taker c.requires.next in
    let is = same_Some p.from (row_of c.index-rows-transfer.result) (sym p.from_at ∙ row_at rows c.args.transfer.giver c.index-rows-transfer.result there c.index-rows-transfer.is) in
    subst (λ (row : Row). row.min < row.target) is p.above

pub most_between-most-requires-clause-demand : goal.most_between-most-requires-clause-demand
most_between-most-requires-clause-demand c =
    let tax = hundredths c.args.tax in
    let rows = c.args.rows.now in
    let p = parties tax (rows_of rows) c.args.transfer.giver c.args.transfer.taker c.requires.next in
    let there = taker_within tax rows c.args.transfer.giver c.args.transfer.taker c.requires.next in
    let is = same_Some p.to (row_of c.index-rows-transfer-2.result) (sym p.to_at ∙ row_at rows c.args.transfer.taker c.index-rows-transfer-2.result there c.index-rows-transfer-2.is) in
    subst (λ (row : Row). 0 < row.demand) is p.demand

pub most_between-most-requires-clause-room : goal.most_between-most-requires-clause-room
most_between-most-requires-clause-room c =
    let tax = hundredths c.args.tax in
    let rows = c.args.rows.now in
    let p = parties tax (rows_of rows) c.args.transfer.giver c.args.transfer.taker c.requires.next in
    let there = taker_within tax rows c.args.transfer.giver c.args.transfer.taker c.requires.next in
    let is = same_Some p.to (row_of c.index-rows-transfer-2.result) (sym p.to_at ∙ row_at rows c.args.transfer.taker c.index-rows-transfer-2.result there c.index-rows-transfer-2.is) in
    subst (λ (row : Row). row.target < row.cap) is p.room

pub rival_of-requires-clause-within : goal.rival_of-requires-clause-within
rival_of-requires-clause-within c = giver_within (hundredths c.args.tax) c.args.rows.now c.args.transfer.giver c.args.transfer.taker c.requires.next

pub rival_of-requires-clause-side : goal.rival_of-requires-clause-side
rival_of-requires-clause-side c =
    let rows = c.args.rows.now in
    let sides = c.requires.sides in
    record {
      side = sides.own;
      tracked = sides.giving;
      same = sym (own_giver (hundredths c.args.tax) (rows_of rows) sides.own c.args.transfer.giver c.args.transfer.taker (plan_rows-have_shares rows) c.requires.next sides.are_own);
    }

pub rival_taker-requires-clause-within : goal.rival_taker-requires-clause-within
rival_taker-requires-clause-within c = taker_within (hundredths c.args.tax) c.args.rows.now c.args.transfer.giver c.args.transfer.taker c.requires.next

pub rival_taker-requires-clause-side : goal.rival_taker-requires-clause-side
rival_taker-requires-clause-side c =
    let rows = c.args.rows.now in
    let sides = c.requires.sides in
    record {
      side = sides.grown;
      tracked = sides.taking;
      same = sym (grown_taker (hundredths c.args.tax) (rows_of rows) sides.grown c.args.transfer.giver c.args.transfer.taker (plan_rows-have_shares rows) c.requires.next sides.are_grown);
    }

pub count_going-requires-clause-giving : goal.count_going-requires-clause-giving
count_going-requires-clause-giving c =
    let rows = c.args.rows.now in
    let sides = c.requires.sides in
    let wide = length-map rows row_of in
    subst (λ (n : ℕ). IfSome c.rival_of.result (λ other. other < n)) wide (giving_within (hundredths c.args.tax) (rows_of rows) sides.own c.args.transfer.giver c.rival_of.result sides.are_own (c.rival_of.ensures.some sides.own sides.giving))

pub count_going-requires-clause-taking : goal.count_going-requires-clause-taking
count_going-requires-clause-taking c =
    let rows = c.args.rows.now in
    let sides = c.requires.sides in
    let wide = length-map rows row_of in
    subst (λ (n : ℕ). IfSome c.rival_taker.result (λ other. other < n)) wide (taking_within (hundredths c.args.tax) (rows_of rows) sides.grown c.args.transfer.taker c.rival_taker.result sides.are_grown (c.rival_taker.ensures.some sides.grown sides.taking))

pub count_going-requires-clause-grows : goal.count_going-requires-clause-grows
count_going-requires-clause-grows c =
    let sides = c.requires.sides in
    taking_room (hundredths c.args.tax) c.args.rows.now sides.grown c.args.transfer.taker c.rival_taker.result sides.are_grown (c.rival_taker.ensures.some sides.grown sides.taking)

pub returns-clause-flow : goal.returns-clause-flow
returns-clause-flow c =
    let tax = hundredths c.args.tax in
    let rows = c.args.rows.now in
    let giver = c.args.transfer.giver in
    let taker = c.args.transfer.taker in
    let sides = c.requires.sides in
    let at = row_at rows giver c.index-rows-transfer.result (giver_within tax rows giver taker c.requires.next) c.index-rows-transfer.is in
    let at' = row_at rows taker c.index-rows-transfer-2.result (taker_within tax rows giver taker c.requires.next) c.index-rows-transfer-2.is in
    let count = c.count_going.result in
    let most = c.most_between-most.ensures in
    let few = c.count_going.ensures.most in
    flow_of tax (rows_of rows) sides.own sides.grown giver taker count c.rival_of.result c.rival_taker.result (plan_rows-have_shares rows) sides.are_own sides.are_grown c.requires.next
    (c.rival_of.ensures.some sides.own sides.giving) (c.rival_of.ensures.none sides.own sides.giving) (c.rival_taker.ensures.some sides.grown sides.taking) (c.rival_taker.ensures.none sides.grown sides.taking)
    (record {
      above = at_row (λ row. row.min + count ≤ row.target) _ (row_of c.index-rows-transfer.result) at (omega (arith, few, most.above));
      demand = at_row (λ row. count ≤ row.demand) _ (row_of c.index-rows-transfer-2.result) at' (omega (arith, few, most.demand));
      room = at_row (λ row. row.target + count ≤ row.cap) _ (row_of c.index-rows-transfer-2.result) at' (omega (arith, few, most.room));
    })
    c.count_going.ensures.some (row_of c.index-rows-transfer.result) (row_of c.index-rows-transfer-2.result) at at' c.count_going.ensures.last

pub returns-clause-sides : goal.returns-clause-sides
returns-clause-sides c =
    let tax = hundredths c.args.tax in
    let rows = c.args.rows.now in
    let giver = c.args.transfer.giver in
    let taker = c.args.transfer.taker in
    let sides = c.requires.sides in
    let shares = plan_rows-have_shares rows in
    record {
      own = sides.own;
      grown = sides.grown;
      are_own = sides.are_own;
      are_grown = sides.are_grown;
      giving = c.rival_of.ensures.side sides.own (sym (own_giver tax (rows_of rows) sides.own giver taker shares c.requires.next sides.are_own)) sides.giving;
      taking = c.rival_taker.ensures.side sides.grown (sym (grown_taker tax (rows_of rows) sides.grown giver taker shares c.requires.next sides.are_grown)) sides.taking;
    }
