use Rattle.std.proofs.Common.{ℕ, ◌<◌, ◌∙◌, refl, length, List, Option, None, Some, IsNone, IfNone, IfSome, All, sym, ap, subst, slice_set}
use Rattle.std.proofs.lemmas.List.{length-set}
use Rattle.vm_tax.specs.declared.price.Price.{Price}
use Rattle.vm_tax.specs.Ratio.{Ratio, hundredths}
use Rattle.vm_tax.specs.Prices.{HaveOneTax}
use Rattle.vm_tax.specs.Offers.{IsGreatest}
use Rattle.vm_tax.proofs.PriceLists.{ratios-none}
use Rattle.vm_plan.specs.declared.tracking.Kind.TheVariants.{Taking}
use Rattle.vm_plan.specs.PlanRow.{row_of}
use Rattle.vm_plan.specs.Rebalancing.{taking_ratios}
use Rattle.vm_plan.specs.Track.{IsTracked}
use Rattle.vm_plan.proofs.GrantLemmas.{row_at}
use Rattle.vm_plan.proofs.SideLemmas.{side_within}
use Rattle.vm_plan.proofs.TrackLemmas.{blank-one_tax, blank_ratios, tracked-one_tax, tracked-restored}
use Rattle.vm_plan.proofs.rebalancing_runs.rival_taker.Goals as goal

if_none : {P : Type 0} (o : Option ℕ) → (IsNone o → P) → IfNone o P
if_none None h = h refl
if_none (Some n) h = tt

pub set-requires-clause-within : goal.set-requires-clause-within
set-requires-clause-within c = side_within c.args.rows.now c.args.position c.requires.side c.requires.within

pub set-requires-clause-one_tax : goal.set-requires-clause-one_tax
set-requires-clause-one_tax c = blank-one_tax c.args.position c.requires.side.tracked

pub set-requires-2-clause-within : goal.set-requires-2-clause-within
set-requires-2-clause-within c =
    let long = ap length c.set.ensures ∙ length-set c.args.takers.now c.args.position None in
    subst (λ (n : ℕ). c.args.position < n) (sym long) (side_within c.args.rows.now c.args.position c.requires.side c.requires.within)

pub set-requires-2-clause-one_tax : goal.set-requires-2-clause-one_tax
set-requires-2-clause-one_tax c =
    let r = c.index-rows-position.result in
    let at = c.requires.side.same ∙ row_at c.args.rows.now c.args.position r c.requires.within c.index-rows-position.is in
    let back = tracked-restored Taking c.args.tax c.args.takers.now c.requires.side.side c.args.position c.taking_price.result (row_of r) at c.requires.side.tracked c.taking_price.ensures.ratio c.taking_price.ensures.taxed in
    subst (λ (xs : List (Option Price)). HaveOneTax (slice_set xs c.args.position c.taking_price.result)) (sym c.set.ensures) (tracked-one_tax back)

pub returns-clause-some : goal.returns-clause-some
returns-clause-some c = λ side t.
    let blank = blank_ratios c.args.takers.now c.set.new.self (taking_ratios (hundredths c.args.tax) side) c.args.position t.ratios c.set.ensures in
    subst (λ (xs : List (Option Ratio)). IfSome c.greatest-rival.result (IsGreatest xs)) blank c.greatest-rival.ensures.greatest

pub returns-clause-none : goal.returns-clause-none
returns-clause-none c = λ side t.
    let blank = blank_ratios c.args.takers.now c.set.new.self (taking_ratios (hundredths c.args.tax) side) c.args.position t.ratios c.set.ensures in
    if_none c.greatest-rival.result (λ none. subst (λ (xs : List (Option Ratio)). All IsNone xs) blank (ratios-none c.set.new.self (c.greatest-rival.ensures.none.0 none)))

pub returns-clause-side : goal.returns-clause-side
returns-clause-side c = λ side same t.
    let r = c.index-rows-position.result in
    let at = same ∙ row_at c.args.rows.now c.args.position r c.requires.within c.index-rows-position.is in
    let back = tracked-restored Taking c.args.tax c.args.takers.now side c.args.position c.taking_price.result (row_of r) at t c.taking_price.ensures.ratio c.taking_price.ensures.taxed in
    let new = c.set-2.ensures ∙ ap (λ (xs : List (Option Price)). slice_set xs c.args.position c.taking_price.result) c.set.ensures in
    subst (λ (xs : List (Option Price)). IsTracked Taking c.args.tax xs side) (sym new) back
