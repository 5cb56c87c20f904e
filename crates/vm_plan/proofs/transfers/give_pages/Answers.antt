use Rattle.std.proofs.Common.{◌+◌, ◌≤◌, ◌∙◌, Option, IfSome, get_or, ap, subst}
use Rattle.std.proofs.lemmas.List.{get_or_default}
use Rattle.std.proofs.lemmas.Option.{slice_get-get_or}
use Rattle.vm_tax.specs.Ratio.{hundredths}
use Rattle.vm_plan.specs.declared.row.PlanRow.{PlanRow}
use Rattle.vm_plan.specs.PlanRow.{row_of}
use Rattle.vm_plan.specs.Row.{revocable_ratio}
use Rattle.vm_plan.specs.Runs.{lowered_row}
use Rattle.vm_plan.specs.declared.tracking.Kind.TheVariants.{Revocable}
use Rattle.vm_plan.proofs.SideLemmas.{side_one_tax, side_set, side_within}
use Rattle.vm_plan.proofs.TrackLemmas.{rows-set}
use Rattle.vm_plan.proofs.transfers.give_pages.Goals as goal

pub lower-requires : goal.lower-requires
lower-requires c = subst (λ (o : Option PlanRow). IfSome o (λ row. row.min + c.args.count ≤ row.target)) (slice_get-get_or c.args.rows.now c.args.position c.index-rows-position.result c.requires.within) c.requires.above

pub set-requires-clause-within : goal.set-requires-clause-within
set-requires-clause-within c = side_within c.args.rows.now c.args.position c.requires.side c.requires.within

pub set-requires-clause-one_tax : goal.set-requires-clause-one_tax
set-requires-clause-one_tax c = side_one_tax c.args.position c.revocable_price.result (row_of c.lower.new.row) c.requires.side c.revocable_price.ensures.ratio c.revocable_price.ensures.taxed

pub returns-clause-given : goal.returns-clause-given
returns-clause-given c =
    let rows = c.args.rows.now in
    let r = get_or rows c.args.position c.index-rows-position.result in
    rows-set (lowered_row c.args.count) rows c.args.position r _ c.requires.within (get_or_default rows c.args.position _ r c.requires.within) c.lower.ensures

pub returns-clause-side : goal.returns-clause-side
returns-clause-side c = λ own same t.
    let rows = c.args.rows.now in
    let r = get_or rows c.args.position c.index-rows-position.result in
    let price = c.revocable_price.ensures.ratio ∙ ap (revocable_ratio (hundredths c.args.tax)) c.lower.ensures in
    side_set Revocable c.args.tax (lowered_row c.args.count) c.args.givers.now c.set.new.self own rows c.args.position r c.revocable_price.result c.requires.within (get_or_default rows c.args.position _ r c.requires.within)
    same t price c.revocable_price.ensures.taxed c.set.ensures
