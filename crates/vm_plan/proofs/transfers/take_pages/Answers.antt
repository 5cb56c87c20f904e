use Rattle.std.proofs.Common.{◌+◌, ◌≤◌, ◌∙◌, Option, IfSome, get_or, ap, subst}
use Rattle.std.proofs.lemmas.List.{get_or_default}
use Rattle.std.proofs.lemmas.Option.{slice_get-get_or}
use Rattle.vm_tax.specs.Ratio.{hundredths}
use Rattle.vm_plan.specs.declared.row.PlanRow.{PlanRow}
use Rattle.vm_plan.specs.PlanRow.{row_of}
use Rattle.vm_plan.specs.Rebalancing.{taking_ratio}
use Rattle.vm_plan.specs.Runs.{raised_row}
use Rattle.vm_plan.specs.declared.tracking.Kind.TheVariants.{Taking}
use Rattle.vm_plan.proofs.SideLemmas.{side_one_tax, side_set, side_within}
use Rattle.vm_plan.proofs.TrackLemmas.{rows-set}
use Rattle.vm_plan.proofs.transfers.take_pages.Goals as goal

pub raise-requires : goal.raise-requires
raise-requires c =
    let there = slice_get-get_or c.args.rows.now c.args.position c.index-rows-position.result c.requires.within in
    record {
      demand = subst (λ (o : Option PlanRow). IfSome o (λ row. c.args.count ≤ row.demand)) there c.requires.demand;
      room = subst (λ (o : Option PlanRow). IfSome o (λ row. row.target + c.args.count ≤ row.cap)) there c.requires.room;
    }

pub set-requires-clause-within : goal.set-requires-clause-within
set-requires-clause-within c = side_within c.args.rows.now c.args.position c.requires.side c.requires.within

pub set-requires-clause-one_tax : goal.set-requires-clause-one_tax
set-requires-clause-one_tax c = side_one_tax c.args.position c.taking_price.result (row_of c.raise.new.row) c.requires.side c.taking_price.ensures.ratio c.taking_price.ensures.taxed

pub returns-clause-taken : goal.returns-clause-taken
returns-clause-taken c =
    let rows = c.args.rows.now in
    let r = get_or rows c.args.position c.index-rows-position.result in
    rows-set (raised_row c.args.count) rows c.args.position r _ c.requires.within (get_or_default rows c.args.position _ r c.requires.within) c.raise.ensures

pub returns-clause-side : goal.returns-clause-side
returns-clause-side c = λ grown same t.
    let rows = c.args.rows.now in
    let r = get_or rows c.args.position c.index-rows-position.result in
    let price = c.taking_price.ensures.ratio ∙ ap (taking_ratio (hundredths c.args.tax)) c.raise.ensures in
    side_set Taking c.args.tax (raised_row c.args.count) c.args.takers.now c.set.new.self grown rows c.args.position r c.taking_price.result c.requires.within (get_or_default rows c.args.position _ r c.requires.within)
    same t price c.taking_price.ensures.taxed c.set.ensures
