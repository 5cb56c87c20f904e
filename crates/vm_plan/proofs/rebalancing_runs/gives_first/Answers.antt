use Rattle.std.proofs.Common.{ℕ, ◌<◌, Option, IfSome, length, sym, subst}
use Rattle.vm_tax.specs.Price.{ratio_of}
use Rattle.vm_tax.specs.Ratio.{Ratio, IsBelow, hundredths}
use Rattle.vm_plan.specs.PlanRow.{rows_of}
use Rattle.vm_plan.specs.Row.{Row, ratio_with}
use Rattle.vm_plan.specs.Runs.{GivesFirst}
use Rattle.vm_plan.proofs.GrantLemmas.{row_at}
use Rattle.vm_plan.proofs.rebalancing_runs.gives_first.Goals as goal

pub bounds-rows-other : goal.bounds-rows-other
bounds-rows-other c = subst (λ (o : Option ℕ). IfSome o (λ other. other < length c.args.rows.now)) c.in-Some.is c.requires.within

pub returns : goal.returns
returns c =
    let tax = hundredths c.args.tax in
    let rows = c.args.rows.now in
    let price = ratio_of c.args.price.now in
    let position = c.args.position in
    let other = c.in-Some.other in
    let r = c.index-rows-other.result in
    let there = subst (λ (o : Option ℕ). IfSome o (λ other. other < length rows)) c.in-Some.is c.requires.within in
    let at = row_at rows other r there c.index-rows-other.is in (
      λ yes. subst (λ (o : Option ℕ). GivesFirst tax (rows_of rows) price position o) (sym c.in-Some.is)
          (subst (λ (o : Option Row). IfSome o (λ row. IsBelow price position (ratio_with tax row row.target) other)) (sym at)
          (subst (λ (that : Ratio). IsBelow price position that other) c.price_with.ensures.ratio (c.is_below.ensures.0 yes))),
      λ first. c.is_below.ensures.1 (subst (λ (that : Ratio). IsBelow price position that other) (sym c.price_with.ensures.ratio)
          (subst (λ (o : Option Row). IfSome o (λ row. IsBelow price position (ratio_with tax row row.target) other)) at
          (subst (λ (o : Option ℕ). GivesFirst tax (rows_of rows) price position o) c.in-Some.is first))),
    )
