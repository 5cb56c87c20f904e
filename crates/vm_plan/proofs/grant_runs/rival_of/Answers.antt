use Rattle.std.proofs.Common.{◌≡◌, ℕ, ◌<◌, ◌∙◌, refl, length, List, Option, Some, None, IsNone, IfNone, IfSome, All, sym, ap, subst, slice_set}
use Rattle.std.proofs.lemmas.List.{length-set, map-set}
use Rattle.std.specs.Option.{option_map}
use Rattle.vm_tax.specs.declared.price.Price.{Price}
use Rattle.vm_tax.specs.Ratio.{Ratio, hundredths}
use Rattle.vm_tax.specs.Price.{ratio_of}
use Rattle.vm_tax.specs.Prices.{ratios_of, HaveOneTax}
use Rattle.vm_tax.specs.Offers.{IsGreatest}
use Rattle.vm_tax.proofs.PriceLists.{ratios-none}
use Rattle.vm_plan.specs.declared.tracking.Kind.TheVariants.{Wanting}
use Rattle.vm_plan.specs.PlanRow.{rows_of}
use Rattle.vm_plan.specs.Row.{others, wanting_ratios}
use Rattle.vm_plan.specs.Track.{IsTracked}
use Rattle.vm_plan.proofs.TrackLemmas.{blank-one_tax, tracked-back, tracked-one_tax, tracked-within}
use Rattle.vm_plan.proofs.grant_runs.rival_of.Goals as goal

-- the prices without that of one guest are those of the others
blank_ratios : (tax : ℕ) (prices new : List (Option Price)) (offers : List (Option Ratio)) (k : ℕ) → ratios_of prices ≡ offers → new ≡ slice_set prices k None → ratios_of new ≡ others offers k
blank_ratios tax prices new offers k is set = ap ratios_of set ∙ map-set (option_map ratio_of) prices k None ∙ ap (λ (xs : List (Option Ratio)). others xs k) is

if_none : {P : Type 0} (o : Option ℕ) → (IsNone o → P) → IfNone o P
if_none None h = h refl
if_none (Some n) h = tt

pub set-requires-clause-within : goal.set-requires-clause-within
set-requires-clause-within c = tracked-within c.args.rows.now c.args.position c.requires.wanting c.requires.within

pub set-requires-clause-one_tax : goal.set-requires-clause-one_tax
set-requires-clause-one_tax c = blank-one_tax c.args.position c.requires.wanting

pub set-requires-2-clause-within : goal.set-requires-2-clause-within
set-requires-2-clause-within c =
    let long = ap length c.set.ensures ∙ length-set c.args.wanting.now c.args.position None in
    subst (λ (n : ℕ). c.args.position < n) (sym long) (tracked-within c.args.rows.now c.args.position c.requires.wanting c.requires.within)

pub set-requires-2-clause-one_tax : goal.set-requires-2-clause-one_tax
set-requires-2-clause-one_tax c =
    let back = tracked-back Wanting c.args.tax c.args.wanting.now c.args.rows.now c.args.position c.wanting_price.result c.index-rows-position.result c.requires.within c.index-rows-position.is c.requires.wanting c.wanting_price.ensures.ratio c.wanting_price.ensures.taxed in
    subst (λ (xs : List (Option Price)). HaveOneTax (slice_set xs c.args.position c.wanting_price.result)) (sym c.set.ensures) (tracked-one_tax back)

pub returns-clause-some : goal.returns-clause-some
returns-clause-some c =
    let offers = wanting_ratios (hundredths c.args.tax) (rows_of c.args.rows.now) in
    let blank = blank_ratios c.args.tax c.args.wanting.now c.set.new.self offers c.args.position c.requires.wanting.ratios c.set.ensures in
    subst (λ (xs : List (Option Ratio)). IfSome c.greatest-rival.result (IsGreatest xs)) blank c.greatest-rival.ensures.greatest

pub returns-clause-none : goal.returns-clause-none
returns-clause-none c =
    let offers = wanting_ratios (hundredths c.args.tax) (rows_of c.args.rows.now) in
    let blank = blank_ratios c.args.tax c.args.wanting.now c.set.new.self offers c.args.position c.requires.wanting.ratios c.set.ensures in
    if_none c.greatest-rival.result (λ none. subst (λ (xs : List (Option Ratio)). All IsNone xs) blank (ratios-none c.set.new.self (c.greatest-rival.ensures.none.0 none)))

pub returns-clause-wanting : goal.returns-clause-wanting
returns-clause-wanting c =
    let back = tracked-back Wanting c.args.tax c.args.wanting.now c.args.rows.now c.args.position c.wanting_price.result c.index-rows-position.result c.requires.within c.index-rows-position.is c.requires.wanting c.wanting_price.ensures.ratio c.wanting_price.ensures.taxed in
    let new = c.set-2.ensures ∙ ap (λ (xs : List (Option Price)). slice_set xs c.args.position c.wanting_price.result) c.set.ensures in
    subst (λ (xs : List (Option Price)). IsTracked Wanting c.args.tax xs (rows_of c.args.rows.now)) (sym new) back
