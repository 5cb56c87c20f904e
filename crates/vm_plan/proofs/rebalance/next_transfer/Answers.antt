use Rattle.std.proofs.Common.{ℕ, List, Option, refl, subst}
use Rattle.std.proofs.lemmas.Bool.{OnFalse_at, OnTrue_at}
use Rattle.vm_tax.specs.Ratio.{Ratio, hundredths}
use Rattle.vm_tax.specs.Offers.{IsGreatest, IsLeast}
use Rattle.vm_plan.specs.PlanRow.{rows_of}
use Rattle.vm_plan.specs.Rebalancing.{taking_ratios}
use Rattle.vm_plan.specs.Row.{revocable_ratios}
use Rattle.vm_plan.specs.Sides.{Pays}
use Rattle.vm_plan.specs.declared.tracking.Kind.TheVariants.{Revocable, Taking}
use Rattle.vm_tax.proofs.OfferLemmas.{greatest_unique, least_unique, none_at}
use Rattle.vm_plan.proofs.MoveLemmas.{none_tracked}
use Rattle.vm_plan.proofs.RowLemmas.{plan_rows-have_shares}
use Rattle.vm_plan.proofs.SideLemmas.{can_give, giver_on_side, pays_of, taker_on_side, transfer_from_sides, would_take}
use Rattle.vm_plan.proofs.rebalance.next_transfer.Goals as goal

pub is_transfer-requires-clause-above : goal.is_transfer-requires-clause-above
is_transfer-requires-clause-above c =
    let sides = c.requires.sides in
    let least = subst (λ (xs : List (Option Ratio)). IsLeast xs c.in_ok-giver.giver) sides.giving.ratios c.in_ok-giver.ensures.least in
    can_give (hundredths c.args.tax) (rows_of c.args.rows.now) sides.own c.in_ok-giver.giver least.ratio sides.are_own least.here

pub is_transfer-requires-clause-wants : goal.is_transfer-requires-clause-wants
is_transfer-requires-clause-wants c =
    let sides = c.requires.sides in
    let most = subst (λ (xs : List (Option Ratio)). IsGreatest xs c.in_ok-taker.taker) sides.taking.ratios c.in_ok-taker.ensures.greatest in
    would_take (hundredths c.args.tax) (rows_of c.args.rows.now) sides.grown c.in_ok-taker.taker most.ratio sides.are_grown most.here

pub returns-then-is_transfer-clause-some : goal.returns-then-is_transfer-clause-some
returns-then-is_transfer-clause-some c =
    let rows = c.args.rows.now in
    let sides = c.requires.sides in
    let least = subst (λ (xs : List (Option Ratio)). IsLeast xs c.in_ok-giver.giver) sides.giving.ratios c.in_ok-giver.ensures.least in
    let most = subst (λ (xs : List (Option Ratio)). IsGreatest xs c.in_ok-taker.taker) sides.taking.ratios c.in_ok-taker.ensures.greatest in
    transfer_from_sides (hundredths c.args.tax) (rows_of rows) sides.own sides.grown c.in_ok-giver.giver c.in_ok-taker.taker (plan_rows-have_shares rows) sides.are_own sides.are_grown least most (OnTrue_at c.if-is_transfer.true c.is_transfer.ensures.pays)

pub returns-else-is_transfer-clause-none : goal.returns-else-is_transfer-clause-none
returns-else-is_transfer-clause-none c = λ giver next.
    let tax = hundredths c.args.tax in
    let rows = rows_of c.args.rows.now in
    let shares = plan_rows-have_shares c.args.rows.now in
    let sides = c.requires.sides in
    let least = subst (λ (xs : List (Option Ratio)). IsLeast xs c.in_ok-giver.giver) sides.giving.ratios c.in_ok-giver.ensures.least in
    let most = subst (λ (xs : List (Option Ratio)). IsGreatest xs c.in_ok-taker.taker) sides.taking.ratios c.in_ok-taker.ensures.greatest in
    let gives = least_unique (revocable_ratios tax sides.own) giver c.in_ok-giver.giver (giver_on_side tax rows sides.own giver next.0 shares sides.are_own next.1) least in
    let takes = greatest_unique (taking_ratios tax sides.grown) next.0 c.in_ok-taker.taker (taker_on_side tax rows sides.grown giver next.0 shares sides.are_grown next.1) most in
    let pays = subst (λ (k : ℕ). Pays tax rows k c.in_ok-taker.taker) gives (subst (λ (k : ℕ). Pays tax rows giver k) takes (pays_of tax rows giver next.0 next.1)) in
    OnFalse_at c.if-is_transfer.false c.is_transfer.ensures.keeps pays

pub returns-in_err-giver-clause-none : goal.returns-in_err-giver-clause-none
returns-in_err-giver-clause-none c =
    let tax = hundredths c.args.tax in
    let rows = rows_of c.args.rows.now in
    let sides = c.requires.sides in
    let none = none_tracked Revocable c.args.tax c.args.givers.now sides.own sides.giving (c.in_err-giver.ensures.none.0 refl) in
    rw c.from_residual.ensures (λ giver next.
    let least = giver_on_side tax rows sides.own giver next.0 (plan_rows-have_shares c.args.rows.now) sides.are_own next.1 in
    none_at (revocable_ratios tax sides.own) giver least.ratio none least.here)

pub returns-in_err-taker-clause-none : goal.returns-in_err-taker-clause-none
returns-in_err-taker-clause-none c =
    let tax = hundredths c.args.tax in
    let rows = rows_of c.args.rows.now in
    let sides = c.requires.sides in
    let none = none_tracked Taking c.args.tax c.args.takers.now sides.grown sides.taking (c.in_err-taker.ensures.none.0 refl) in
    rw c.from_residual-in_err-taker.ensures (λ giver next.
    let most = taker_on_side tax rows sides.grown giver next.0 (plan_rows-have_shares c.args.rows.now) sides.are_grown next.1 in
    none_at (taking_ratios tax sides.grown) next.0 most.ratio none most.here)
