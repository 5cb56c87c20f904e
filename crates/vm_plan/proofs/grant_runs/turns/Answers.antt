use Rattle.std.proofs.Common.{ℕ, ◌<◌, ◌≤◌, List, length, refl, sym, subst, arith}
use Rattle.std.proofs.lemmas.List.{length-map}
use Rattle.vm_tax.specs.Ratio.{Ratio, Tax, hundredths}
use Rattle.vm_tax.specs.Offers.{IsGreatest}
use Rattle.vm_plan.specs.declared.row.PlanRow.{PlanRow}
use Rattle.vm_plan.specs.PlanRow.{row_of, rows_of}
use Rattle.vm_plan.specs.Row.{others, wanting_ratio, wanting_ratios}
use Rattle.vm_plan.specs.Runs.{IsAhead}
use Rattle.vm_plan.proofs.Places.{within}
use Rattle.vm_plan.proofs.RowLemmas.{other_stands}
use Rattle.vm_plan.proofs.GrantRunLemmas.{ahead_of_rival, run_alone, run_before, some_affordable}
use Rattle.vm_plan.proofs.grant_runs.turns.Goals as goal

greatest_within : (tax : Tax) (rows : List PlanRow) (k : ℕ) → IsGreatest (wanting_ratios tax (rows_of rows)) k → k < length rows
greatest_within tax rows k greatest = subst (λ (n : ℕ). k < n) (length-map rows row_of) (within (wanting_ratio tax) (rows_of rows) k greatest.ratio greatest.here)

second_within : (tax : Tax) (rows : List PlanRow) (position k : ℕ) → IsGreatest (others (wanting_ratios tax (rows_of rows)) position) k → k < length rows
second_within tax rows position k second =
    let stands = other_stands (wanting_ratios tax (rows_of rows)) position k second.ratio second.here in
    subst (λ (n : ℕ). k < n) (length-map rows row_of) (within (wanting_ratio tax) (rows_of rows) k second.ratio stands.1)

pub bounds-rows-position : goal.bounds-rows-position
bounds-rows-position c = greatest_within (hundredths c.args.tax) c.args.rows.now c.args.position c.requires.next.greatest

pub affordable-most-requires : goal.affordable-most-requires
affordable-most-requires c =
    let there = greatest_within (hundredths c.args.tax) c.args.rows.now c.args.position c.requires.next.greatest in
    subst (λ (r : PlanRow). r.target ≤ r.held) (sym c.index-rows-position.is) (c.requires.held c.args.position c.index-rows-position.result there)

pub rival_of-requires-clause-within : goal.rival_of-requires-clause-within
rival_of-requires-clause-within c = greatest_within (hundredths c.args.tax) c.args.rows.now c.args.position c.requires.next.greatest

pub bounds-rows-other : goal.bounds-rows-other
bounds-rows-other c = second_within (hundredths c.args.tax) c.args.rows.now c.args.position c.in-Some.other c.in-Some.ensures.some

pub price_with-price-requires-clause-few : goal.price_with-price-requires-clause-few
price_with-price-requires-clause-few c = omega (arith, c.index-rows-other.result.within_cap, c.index-rows-other.result.few_pages)

pub overflow_add-limit : goal.overflow_add-limit
overflow_add-limit c =
    let r = c.index-rows-position.result in
    omega (arith, r.within_cap, r.few_pages, c.affordable-most.ensures)

pub overflow_sub-limit : goal.overflow_sub-limit
overflow_sub-limit c =
    let r = c.index-rows-position.result in
    omega (arith, r.some_min, r.above_min)

pub most_ahead-requires-clause-few : goal.most_ahead-requires-clause-few
most_ahead-requires-clause-few c =
    let r = c.index-rows-position.result in
    omega (arith, r.within_cap, r.few_pages, c.affordable-most.ensures)

pub most_ahead-requires-clause-from : goal.most_ahead-requires-clause-from
most_ahead-requires-clause-from c =
    let rows = c.args.rows.now in
    let there = greatest_within (hundredths c.args.tax) rows c.args.position c.requires.next.greatest in
    let some = some_affordable c.args.thresholds.now (hundredths c.args.tax) c.args.free rows c.args.position c.index-rows-position.result there c.index-rows-position.is c.requires.next in
    omega (arith, some, c.affordable-most.ensures)

pub most_ahead-requires-clause-ahead : goal.most_ahead-requires-clause-ahead
most_ahead-requires-clause-ahead c =
    let tax = hundredths c.args.tax in
    let rows = c.args.rows.now in
    let second = c.in-Some.ensures.some in
    let there = greatest_within tax rows c.args.position c.requires.next.greatest in
    let other = second_within tax rows c.args.position c.in-Some.other second in
    let ahead = ahead_of_rival tax rows c.args.position c.in-Some.other c.index-rows-position.result c.index-rows-other.result there other c.index-rows-position.is c.index-rows-other.is c.requires.next.greatest second in
    subst (λ (b : Ratio). IsAhead tax (row_of c.index-rows-position.result) c.args.position c.index-rows-position.result.target b c.in-Some.other) (sym c.price_with-price.ensures.ratio) ahead

pub returns-in_default-clause-run : goal.returns-in_default-clause-run
returns-in_default-clause-run c =
    let tax = hundredths c.args.tax in
    let rows = c.args.rows.now in
    let there = greatest_within tax rows c.args.position c.requires.next.greatest in
    let run = run_alone c.args.thresholds.now tax c.args.free rows c.args.position c.index-rows-position.result there c.index-rows-position.is c.requires.held c.requires.next c.in_default.ensures.none in
    rw c.affordable-most.ensures run

pub returns-clause-run : goal.returns-clause-run
returns-clause-run c =
    let tax = hundredths c.args.tax in
    let rows = c.args.rows.now in
    let second = c.in-Some.ensures.some in
    let there = greatest_within tax rows c.args.position c.requires.next.greatest in
    let other = second_within tax rows c.args.position c.in-Some.other second in
    let some = some_affordable c.args.thresholds.now tax c.args.free rows c.args.position c.index-rows-position.result there c.index-rows-position.is c.requires.next in
    let ahead = subst (λ (b : Ratio). IsAhead tax (row_of c.index-rows-position.result) c.args.position c.most_ahead.result b c.in-Some.other) c.price_with-price.ensures.ratio c.most_ahead.ensures.ahead in
    run_before c.args.thresholds.now tax c.args.free rows c.args.position c.in-Some.other c.most_ahead.result _ c.index-rows-position.result c.index-rows-other.result
    there other c.index-rows-position.is c.index-rows-other.is c.requires.held c.requires.next second ahead c.most_ahead.ensures.from
    (omega (arith, some, c.affordable-most.ensures, c.most_ahead.ensures.to)) refl

pub overflow_sub-result : goal.overflow_sub-result
overflow_sub-result c = c.most_ahead.ensures.from

pub overflow_add-result : goal.overflow_add-result
overflow_add-result c =
    let r = c.index-rows-position.result in
    omega (arith, r.within_cap, r.few_pages, c.affordable-most.ensures, c.most_ahead.ensures.to)
