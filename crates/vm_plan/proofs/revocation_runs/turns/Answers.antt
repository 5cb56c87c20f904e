use Rattle.std.proofs.Common.{ℕ, ◌<◌, List, length, refl, subst, sym, arith}
use Rattle.std.proofs.lemmas.List.{length-map}
use Rattle.vm_tax.specs.Ratio.{Ratio, Tax, hundredths}
use Rattle.vm_tax.specs.Offers.{IsLeast}
use Rattle.vm_plan.specs.declared.row.PlanRow.{PlanRow}
use Rattle.vm_plan.specs.PlanRow.{row_of, rows_of}
use Rattle.vm_plan.specs.Row.{revocable_ratio, revocable_ratios}
use Rattle.vm_plan.specs.Runs.{IsBehind}
use Rattle.vm_plan.proofs.GrantLemmas.{rival_within}
use Rattle.vm_plan.proofs.Places.{within}
use Rattle.vm_plan.proofs.RevocationRunLemmas.{above_min, behind_rival, fall_alone, fall_before}
use Rattle.vm_plan.proofs.revocation_runs.turns.Goals as goal

least_within : (tax : Tax) (rows : List PlanRow) (k : ℕ) → IsLeast (revocable_ratios tax (rows_of rows)) k → k < length rows
least_within tax rows k least = subst (λ (n : ℕ). k < n) (length-map rows row_of) (within (revocable_ratio tax) (rows_of rows) k least.ratio least.here)

pub bounds-rows-position : goal.bounds-rows-position
bounds-rows-position c = least_within (hundredths c.args.tax) c.args.rows.now c.args.position c.requires.least

pub overflow_cast-most : goal.overflow_cast-most
overflow_cast-most c =
    let r = c.index-rows-position.result in
    omega (arith, r.within_cap, r.few_pages, c.from.ensures, c.min-most.ensures)

pub rival_of-requires-clause-within : goal.rival_of-requires-clause-within
rival_of-requires-clause-within c = least_within (hundredths c.args.tax) c.args.rows.now c.args.position c.requires.least

pub returns-in_default-clause-wanted : goal.returns-in_default-clause-wanted
returns-in_default-clause-wanted c = omega (arith, c.min-most.ensures)

pub returns-in_default-clause-run : goal.returns-in_default-clause-run
returns-in_default-clause-run c =
    let tax = hundredths c.args.tax in
    let rows = c.args.rows.now in
    let r = c.index-rows-position.result in
    let there = least_within tax rows c.args.position c.requires.least in
    let above = above_min tax rows c.args.position r there c.index-rows-position.is c.requires.least in
    fall_alone tax rows c.args.position c.min-most.result r there c.index-rows-position.is
    (omega (arith, above, c.requires.wanted, c.from.ensures, c.min-most.ensures)) (omega (arith, above, c.from.ensures, c.min-most.ensures)) (c.in_default.ensures.none (rows_of c.args.rows.now) c.requires.tracked)

pub bounds-rows-other : goal.bounds-rows-other
bounds-rows-other c = rival_within (hundredths c.args.tax) c.args.rows.now c.args.position c.in-Some.other (c.in-Some.ensures.some (rows_of c.args.rows.now) c.requires.tracked)

pub price_with-price-requires-clause-few : goal.price_with-price-requires-clause-few
price_with-price-requires-clause-few c = omega (arith, c.index-rows-other.result.within_cap, c.index-rows-other.result.few_pages)

pub overflow_sub-limit : goal.overflow_sub-limit
overflow_sub-limit c = omega (arith, c.from.ensures, c.min-most.ensures)

pub overflow_add-limit : goal.overflow_add-limit
overflow_add-limit c =
    let r = c.index-rows-position.result in
    omega (arith, r.within_cap, r.few_pages)

pub least_behind-requires-clause-to : goal.least_behind-requires-clause-to
least_behind-requires-clause-to c =
    let tax = hundredths c.args.tax in
    let rows = c.args.rows.now in
    let r = c.index-rows-position.result in
    let there = least_within tax rows c.args.position c.requires.least in
    let above = above_min tax rows c.args.position r there c.index-rows-position.is c.requires.least in
    omega (arith, above, c.requires.wanted, c.from.ensures, c.min-most.ensures)

pub least_behind-requires-clause-behind : goal.least_behind-requires-clause-behind
least_behind-requires-clause-behind c =
    let tax = hundredths c.args.tax in
    let rows = c.args.rows.now in
    let second = (c.in-Some.ensures.some (rows_of c.args.rows.now) c.requires.tracked) in
    let there = least_within tax rows c.args.position c.requires.least in
    let other = rival_within tax rows c.args.position c.in-Some.other second in
    let behind = behind_rival tax rows c.args.position c.in-Some.other c.index-rows-position.result c.index-rows-other.result there other c.index-rows-position.is c.index-rows-other.is c.requires.least second in
    subst (λ (b : Ratio). IsBehind tax (row_of c.index-rows-position.result) c.args.position c.index-rows-position.result.target b c.in-Some.other) (sym c.price_with-price.ensures.ratio) behind

pub returns-clause-run : goal.returns-clause-run
returns-clause-run c =
    let tax = hundredths c.args.tax in
    let rows = c.args.rows.now in
    let r = c.index-rows-position.result in
    let second = (c.in-Some.ensures.some (rows_of c.args.rows.now) c.requires.tracked) in
    let there = least_within tax rows c.args.position c.requires.least in
    let other = rival_within tax rows c.args.position c.in-Some.other second in
    let above = above_min tax rows c.args.position r there c.index-rows-position.is c.requires.least in
    let behind = subst (λ (b : Ratio). IsBehind tax (row_of r) c.args.position c.least_behind.result b c.in-Some.other) c.price_with-price.ensures.ratio c.least_behind.ensures.behind in
    fall_before tax rows c.args.position c.in-Some.other c.least_behind.result _ r c.index-rows-other.result
    there other c.index-rows-position.is c.index-rows-other.is second behind c.least_behind.ensures.to
    (omega (arith, above, c.requires.wanted, c.from.ensures, c.min-most.ensures, c.least_behind.ensures.from)) refl

pub overflow_sub-result : goal.overflow_sub-result
overflow_sub-result c = c.least_behind.ensures.to

pub overflow_add-result : goal.overflow_add-result
overflow_add-result c =
    let r = c.index-rows-position.result in
    omega (arith, r.within_cap, r.few_pages)

pub returns-clause-wanted : goal.returns-clause-wanted
returns-clause-wanted c = omega (arith, c.requires.wanted, c.from.ensures, c.min-most.ensures, c.least_behind.ensures.from, c.least_behind.ensures.to)

pub rival_of-requires-clause-side : goal.rival_of-requires-clause-side
rival_of-requires-clause-side c = record { side = rows_of c.args.rows.now; tracked = c.requires.tracked; same = refl }

pub returns-in_default-clause-tracked : goal.returns-in_default-clause-tracked
returns-in_default-clause-tracked c = c.rival_of.ensures.side (rows_of c.args.rows.now) refl c.requires.tracked

pub returns-clause-tracked : goal.returns-clause-tracked
returns-clause-tracked c = c.rival_of.ensures.side (rows_of c.args.rows.now) refl c.requires.tracked
