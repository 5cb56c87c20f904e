use Rattle.std.proofs.Common.{◌≡◌, ◌+◌, ◌-◌, ◌<◌, Bool, true, false, not, refl, sym, subst, arith}
use Rattle.std.proofs.lemmas.Bool.{false≢true}
use Rattle.vm_tax.specs.Price.{ratio_of}
use Rattle.vm_tax.specs.Ratio.{Ratio, IsAbove, hundredths}
use Rattle.vm_plan.specs.PlanRow.{row_of}
use Rattle.vm_plan.specs.Row.{ratio_with}
use Rattle.vm_plan.proofs.rebalancing_runs.is_kept.Goals as goal

pub returns-then-giver-eq0 : goal.returns-then-giver-eq0
returns-then-giver-eq0 c = (λ yes wants. absurd (omega (arith, wants, c.if-giver-eq0.true)), λ kept. refl)

not_both : (b : Bool) → not b ≡ true → b ≡ true → ⊥
not_both true e f = false≢true e
not_both false e f = false≢true f

not_from : (b : Bool) → (b ≡ true → ⊥) → not b ≡ true
not_from true never = absurd (never refl)
not_from false never = refl

pub returns : goal.returns
returns c =
    let tax = hundredths c.args.tax in
    let from = row_of c.args.giver.now in
    let to = row_of c.args.taker.now in
    let giver = c.args.transfer.giver in
    let taker = c.args.transfer.taker in
    let back = c.price_with-back in
    let rival = c.price_with-rival in
    let price = ratio_with tax from ((from.target - c.args.given) - 1) in
    let price' = ratio_with tax to (to.target + c.args.given) in
    let wants : 0 < c.args.giver.now.demand = omega (arith, c.if-giver-eq0.false) in (
      λ yes wanted above. not_both c.is_above.result yes (c.is_above.ensures.1
          (subst (λ (that : Ratio). IsAbove (ratio_of back.result) giver that taker) (sym rival.ensures.ratio) (subst (λ (that : Ratio). IsAbove that giver price' taker) (sym back.ensures.ratio) above))),
      λ kept. not_from c.is_above.result (λ above. kept wants
          (subst (λ (that : Ratio). IsAbove price giver that taker) rival.ensures.ratio (subst (λ (that : Ratio). IsAbove that giver (ratio_of rival.result) taker) back.ensures.ratio (c.is_above.ensures.0 above)))),
    )
