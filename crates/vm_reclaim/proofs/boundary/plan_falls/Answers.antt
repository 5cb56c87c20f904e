use Rattle.std.proofs.Common.{◌≡◌, ◌∙◌, ◌<◌, List, ℕ, ap, fold, length, subst, sym}
use Rattle.vm_guest.specs.Boundary.{revoked}
use Rattle.vm_plan.specs.PlanRow.{rows_of as plan_rows}
use Rattle.vm_plan.specs.Revocation.{revocation_list, rows_after, shortfall_of, IsRevocationList}
use Rattle.vm_plan.specs.Row.{Row}
use Rattle.vm_pool.specs.Changes.{changed}
use Rattle.vm_pool.specs.Pool.{EachGuest}
use Rattle.vm_tax.specs.Ratio.{hundredths}
use Rattle.vm_reclaim.specs.Fairness.{IsAtMinimum}
use Rattle.vm_reclaim.specs.Numbers.{policy_in}
use Rattle.vm_reclaim.specs.Reclaim.{revocations_in, wanted_in}
use Rattle.vm_reclaim.specs.Rows.{rows_of}
use Rattle.vm_reclaim.proofs.FairLemmas.{fair-boundary, none-left-boundary}
use Rattle.vm_reclaim.proofs.PlanningLemmas.{can_lower, rows-fallen}
use Rattle.vm_reclaim.proofs.boundary.plan_falls.Goals as goal

pub lower_targets-requires-clause-can : goal.lower_targets-requires-clause-can
lower_targets-requires-clause-can c =
    can_lower (plan_rows c.args.rows.now) c.in_ok-plan.plan c.in_ok-plan.ensures.applies

pub returns-clause-fair : goal.returns-clause-fair
returns-clause-fair c =
    let pool = c.args.pool.now in
    let tax = hundredths c.args.numbers.now.tax in
    let plan = c.in_ok-plan.plan in
    let wanted = shortfall_of c.args.state c.free.result c.args.numbers.now.thresholds (plan_rows c.args.rows.now) in
    fair-boundary tax wanted pool plan (subst (λ (rows : List Row). IsRevocationList tax wanted rows plan) c.requires.rows c.in_ok-plan.ensures.list)

pub returns-clause-enough : goal.returns-clause-enough
returns-clause-enough c =
    let pool = c.args.pool.now in
    let policy = policy_in c.args.numbers.now in
    let plan = c.in_ok-plan.plan in
    let wanted = shortfall_of c.args.state c.free.result c.args.numbers.now.thresholds (plan_rows c.args.rows.now) in
    let list = subst (λ (rows : List Row). IsRevocationList policy.tax wanted rows plan) c.requires.rows c.in_ok-plan.ensures.list in
    let same : wanted ≡ wanted_in policy c.args.state pool = λ i. shortfall_of c.args.state (c.free.ensures.free i) policy.thresholds (c.requires.rows i) in
    let is : plan ≡ revocations_in policy c.args.state pool = c.in_ok-plan.ensures.exact ∙ (λ i. revocation_list policy.tax (same i) (c.requires.rows i)) in
    λ fewer. subst (λ (moves : List ℕ). EachGuest IsAtMinimum (fold (changed revoked) pool moves)) is
    (none-left-boundary policy.tax wanted pool plan list (subst (λ (n : ℕ). length plan < n) (sym same) fewer))

pub returns-clause-rows : goal.returns-clause-rows
returns-clause-rows c =
    let pool = c.args.pool.now in
    let policy = policy_in c.args.numbers.now in
    let plan = c.in_ok-plan.plan in
    let wanted = shortfall_of c.args.state c.free.result c.args.numbers.now.thresholds (plan_rows c.args.rows.now) in
    let list = subst (λ (rows : List Row). IsRevocationList policy.tax wanted rows plan) c.requires.rows c.in_ok-plan.ensures.list in
    let same : wanted ≡ wanted_in policy c.args.state pool = λ i. shortfall_of c.args.state (c.free.ensures.free i) policy.thresholds (c.requires.rows i) in
    let is : plan ≡ revocations_in policy c.args.state pool = c.in_ok-plan.ensures.exact ∙ (λ i. revocation_list policy.tax (same i) (c.requires.rows i)) in
    c.lower_targets.ensures.rows
    ∙ (ap (λ (rows : List Row). rows_after rows plan) c.requires.rows
    ∙ (rows-fallen policy.tax pool plan (fair-boundary policy.tax wanted pool plan list)
    ∙ ap (λ (moves : List ℕ). rows_of (fold (changed revoked) pool moves).guests) is))

pub returns-clause-plan : goal.returns-clause-plan
returns-clause-plan c =
    let policy = policy_in c.args.numbers.now in
    c.in_ok-plan.ensures.exact
    ∙ (λ i. revocation_list policy.tax (shortfall_of c.args.state (c.free.ensures.free i) policy.thresholds (c.requires.rows i)) (c.requires.rows i))

pub revoke-requires-clause-held : goal.revoke-requires-clause-held
revoke-requires-clause-held c = c.requires.held

pub lower_targets-requires-clause-held : goal.lower_targets-requires-clause-held
lower_targets-requires-clause-held c = c.requires.held

pub returns-clause-held : goal.returns-clause-held
returns-clause-held c = c.lower_targets.ensures.held
