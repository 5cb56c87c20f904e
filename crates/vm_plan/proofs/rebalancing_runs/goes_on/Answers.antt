use Rattle.std.proofs.Common.{◌+◌, subst}
use Rattle.std.proofs.lemmas.Bool.{OnTrue_from}
use Rattle.vm_tax.specs.Price.{ratio_of}
use Rattle.vm_tax.specs.Ratio.{Ratio, IsLess, hundredths}
use Rattle.vm_plan.specs.PlanRow.{row_of, rows_of}
use Rattle.vm_plan.specs.Row.{ratio_with}
use Rattle.vm_plan.specs.Runs.{GivesFirst, GoesOn, TakesFirst}
use Rattle.vm_plan.proofs.rebalancing_runs.goes_on.Goals as goal

pub returns : goal.returns
returns c =
    let tax = hundredths c.args.tax in
    let rows = rows_of c.args.rows.now in
    let price = c.price_with-price in
    let paid = c.price_with-paid in
    let to = row_of c.args.taker.now in
    OnTrue_from c.is_kept.result
    (GoesOn tax rows (row_of c.args.giver.now) (row_of c.args.taker.now) c.args.transfer.giver c.args.transfer.taker c.args.rivals.giver c.args.rivals.taker c.args.given)
    (λ yes. record {
      gives = subst (λ (that : Ratio). GivesFirst tax rows that c.args.transfer.giver c.args.rivals.giver) price.ensures.ratio (c.gives_first.ensures.0 c.if-not-gives_first.false);
      takes = subst (λ (that : Ratio). TakesFirst tax rows that c.args.transfer.taker c.args.rivals.taker) paid.ensures.ratio (c.takes_first.ensures.0 c.if-not-takes_first.false);
      more = subst (λ (that : Ratio). IsLess that (ratio_with tax to ((to.target + c.args.given) + 1))) price.ensures.ratio (subst (λ (that : Ratio). IsLess (ratio_of price.result) that) paid.ensures.ratio (c.is_less.ensures.0 c.if-not-is_less.false));
      stays = c.is_kept.ensures.0 yes;
    })
