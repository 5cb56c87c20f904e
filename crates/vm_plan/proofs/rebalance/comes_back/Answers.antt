use Rattle.std.proofs.Common.{◌≡◌, ◌<◌, ℕ, List, Option, Some, IfSome, length, get_or, slice_get, sym, ap, ◌∙◌, subst, arith}
use Rattle.std.proofs.lemmas.Bool.{false≢true}
use Rattle.std.proofs.lemmas.Option.{slice_get-get_or}
use Rattle.vm_tax.specs.Ratio.{Ratio, hundredths}
use Rattle.vm_tax.specs.Price.{ratio_of}
use Rattle.vm_plan.specs.declared.row.PlanRow.{PlanRow}
use Rattle.vm_plan.specs.PlanRow.{row_of, rows_of}
use Rattle.vm_plan.specs.Row.{Row}
use Rattle.vm_plan.specs.Runs.{Leads, LeadsAll}
use Rattle.vm_plan.proofs.BackLemmas.{back_demand, back_from_leads, leads_from_back}
use Rattle.vm_plan.proofs.GrantLemmas.{row_at}
use Rattle.vm_plan.proofs.rebalance.comes_back.Goals as goal

above_floor : (rows : List PlanRow) (k : ℕ) (r : PlanRow) → k < length rows → r ≡ get_or rows k r → IfSome (slice_get rows k) (λ row. row.min < row.target) → r.min < r.target
above_floor rows k r l e h = subst (λ (o : Option PlanRow). IfSome o (λ row. row.min < row.target)) (slice_get-get_or rows k r l ∙ ap (λ (x : PlanRow). Some x) (sym e)) h

pub returns-then-giver-eq0 : goal.returns-then-giver-eq0
returns-then-giver-eq0 c =
    let rows = c.args.rows.now in
    let r = c.index-rows-transfer.result in
    let at = row_at rows c.args.transfer.giver r c.requires.giver c.index-rows-transfer.is in (
      λ e. absurd (false≢true e),
      λ back.
          let wants = back_demand (hundredths c.args.tax) (rows_of rows) c.args.transfer.giver (row_of r) at back in
          absurd (omega (arith, wants, c.if-giver-eq0.true)),
    )

pub price_with-price-requires-clause-some : goal.price_with-price-requires-clause-some
price_with-price-requires-clause-some c =
    let r = c.index-rows-transfer.result in
    let above = above_floor c.args.rows.now c.args.transfer.giver r c.requires.giver c.index-rows-transfer.is c.requires.above in
    omega (arith, above, r.some_min)

pub returns-then-leads : goal.returns-then-leads
returns-then-leads c =
    let tax = hundredths c.args.tax in
    let rows = c.args.rows.now in
    let giver = c.args.transfer.giver in
    let r = c.index-rows-transfer.result in
    let at = row_at rows giver r c.requires.giver c.index-rows-transfer.is in
    let above = above_floor rows giver r c.requires.giver c.index-rows-transfer.is c.requires.above in
    let demand : 0 < r.demand = omega (arith, c.if-giver-eq0.false) in
    let price = c.price_with-price.ensures.ratio in (
      λ yes. back_from_leads tax (rows_of rows) giver (row_of r) at above r.within_cap demand (subst (λ (x : Ratio). LeadsAll tax x giver (rows_of rows)) price (c.leads_all.ensures.0 yes)),
      λ back. c.leads_all.ensures.1 (subst (λ (x : Ratio). LeadsAll tax x giver (rows_of rows)) (sym price) (leads_from_back tax (rows_of rows) giver (row_of r) at back)),
    )

pub returns-else-leads : goal.returns-else-leads
returns-else-leads c =
    let tax = hundredths c.args.tax in
    let rows = c.args.rows.now in
    let giver = c.args.transfer.giver in
    let taker = c.args.transfer.taker in
    let r = c.index-rows-transfer.result in
    let at = row_at rows giver r c.requires.giver c.index-rows-transfer.is in
    let at' = row_at rows taker c.index-rows-transfer-2.result c.requires.taker c.index-rows-transfer-2.is in
    let price = c.price_with-price.ensures.ratio in (
      λ e. absurd (false≢true (sym c.if-leads.false ∙ e)),
      λ back.
          let all = subst (λ (x : Ratio). LeadsAll tax x giver (rows_of rows)) (sym price) (leads_from_back tax (rows_of rows) giver (row_of r) at back) in
          c.leads.ensures.1 (subst (λ (o : Option Row). IfSome o (λ row. Leads tax (ratio_of c.price_with-price.result) giver row taker)) at' (all taker)),
    )
