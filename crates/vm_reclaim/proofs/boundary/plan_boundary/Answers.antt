use Rattle.std.proofs.Common.{◌≡◌, ◌∙◌, ◌+◌, ◌<◌, ◌≤◌, All, Result, Ok, Err, IfErr, List, ℕ, ap, arith, refl, subst, sym}
use Rattle.std.proofs.lemmas.List.{take_at}
use Rattle.std.proofs.lemmas.Result.{IfOk-from_err}
use Rattle.std.specs.declared.alloc.AllocError.{AllocError}
use Rattle.vm_plan.specs.declared.row.PlanRow.{PlanRow}
use Rattle.vm_plan.specs.Grants.{Pool, grant_list, IsGrantList}
use Rattle.vm_plan.specs.PlanRow.{pool_of, rows_of as plan_rows}
use Rattle.vm_plan.proofs.Places.{grants_apply}
use Rattle.vm_plan.proofs.RowLemmas.{plan_rows-have_shares}
use Rattle.vm_pool.specs.CanMove.{CanGrant, CanRevoke}
use Rattle.vm_reclaim.specs.declared.lists.BoundaryPlan.{BoundaryPlan}
use Rattle.vm_reclaim.specs.declared.lists.Paged.{Paged}
use Rattle.vm_reclaim.specs.Boundary.{carried_out, pool_reclaimed, pool_settled, CanCarryOut}
use Rattle.vm_reclaim.specs.Fairness.{GivesFromCheapest}
use Rattle.vm_reclaim.specs.Numbers.{policy_in}
use Rattle.vm_reclaim.specs.Planning.{drivers_of, frames_in, rows_granted, waiting_from, CanRise}
use Rattle.vm_reclaim.specs.Reclaim.{pool_revoked, revocations_in, blocks_in}
use Rattle.vm_reclaim.specs.Rows.{plan_pool_of, rows_of}
use Rattle.vm_reclaim.proofs.CanLemmas.{can_revoke}
use Rattle.vm_reclaim.proofs.BalanceLemmas.{can-rise, can-settled, fair-settled, giving-shares, moves-settled, rows-settled}
use Rattle.vm_reclaim.proofs.CarryLemmas.{balanced-is, can-settle}
use Rattle.vm_reclaim.proofs.PlanningLemmas.{blocked-are, given-within, held-fallen, paging-told, pool-planned}
use Rattle.vm_reclaim.proofs.RestLemmas.{can-do-nothing, grants-at-rest, plan-at-rest}
use Rattle.vm_reclaim.proofs.RowLemmas.{can_grant}
use Rattle.vm_reclaim.proofs.boundary.plan_boundary.Goals as goal

no_more : (told counts fallen all : ℕ) → told ≡ counts → counts ≤ fallen → fallen ≡ all → told ≤ all
no_more told counts fallen all sum given held = omega arith

few_rows : (rows len items guests : ℕ) → rows ≡ len → len ≡ items → items ≡ guests → guests ≤ 256 → rows ≤ 256
few_rows rows len items guests same long all few = omega arith

some_rows : (rows len items guests : ℕ) → rows ≡ len → len ≡ items → items ≡ guests → 0 < rows → 0 < guests
some_rows rows len items guests same long all some = omega arith

same_rows : (rows len items guests : ℕ) → rows ≡ len → len ≡ items → items ≡ guests → rows ≡ guests
same_rows rows len items guests same long all = omega arith

some_guest : (r : Result BoundaryPlan AllocError) {P : Type 0} → P → IfErr r (λ _. P)
some_guest (Ok plan) some = tt
some_guest (Err e) some = some

-- ---- nothing is to be done

pub returns-then-is_at_rest-clause-plan : goal.returns-then-is_at_rest-clause-plan
returns-then-is_at_rest-clause-plan c =
    c.nothing.ensures ∙ plan-at-rest (policy_in c.args.numbers.now) c.args.state c.args.pool.now (c.is_at_rest.ensures.0 c.if-is_at_rest.true)

pub returns-then-is_at_rest-clause-can : goal.returns-then-is_at_rest-clause-can
returns-then-is_at_rest-clause-can c = can-do-nothing c.args.pool.now c.nothing.result c.nothing.ensures

pub returns-then-is_at_rest-clause-done : goal.returns-then-is_at_rest-clause-done
returns-then-is_at_rest-clause-done c =
    ap (λ (plan : BoundaryPlan). carried_out plan c.args.pool.now) (returns-then-is_at_rest-clause-plan c)
    ∙ balanced-is (policy_in c.args.numbers.now) c.args.state c.args.pool.now

pub returns-then-is_at_rest-clause-rebalanced_fairly : goal.returns-then-is_at_rest-clause-rebalanced_fairly
returns-then-is_at_rest-clause-rebalanced_fairly c =
    let policy = policy_in c.args.numbers.now in
    let guests = (pool_settled policy c.args.state c.args.pool.now).guests in
    subst (λ (plan : BoundaryPlan). GivesFromCheapest policy.tax guests plan.rebalanced) (sym c.nothing.ensures) tt

pub returns-then-is_at_rest-clause-granted_fairly : goal.returns-then-is_at_rest-clause-granted_fairly
returns-then-is_at_rest-clause-granted_fairly c =
    let pool = c.args.pool.now in
    let state = c.args.state in
    let policy = policy_in c.args.numbers.now in
    let rest = c.is_at_rest.ensures.0 c.if-is_at_rest.true in
    subst (λ (plan : BoundaryPlan). IsGrantList state policy.thresholds policy.tax (plan_pool_of (pool_reclaimed policy state pool)) plan.granted) (sym c.nothing.ensures)
    (grants-at-rest policy state pool rest)

-- ---- the rest

pub plan_falls-requires-clause-rows : goal.plan_falls-requires-clause-rows
plan_falls-requires-clause-rows c = ap plan_rows c.deref_mut.ensures.value ∙ c.in_ok-rows.ensures.rows

pub plan_falls-requires-clause-held : goal.plan_falls-requires-clause-held
plan_falls-requires-clause-held c = subst (All (λ (row : PlanRow). row.target ≤ row.held)) (sym c.deref_mut.ensures.value) c.in_ok-rows.ensures.held

pub page_rows-requires-clause-few : goal.page_rows-requires-clause-few
page_rows-requires-clause-few c = few_rows _ _ _ _ c.deref_mut-2.ensures.len c.in_ok-rows.rows.ok.0 c.in_ok-rows.ensures.length c.requires

pub page_rows-requires-clause-held : goal.page_rows-requires-clause-held
page_rows-requires-clause-held c =
    let first = take_at c.plan_falls.new.rows _ c.in_ok-rows.rows.len (c.plan_falls.auto.rows ∙ c.deref_mut.ensures.len) in
    subst (All (λ (row : PlanRow). row.target ≤ row.held)) (sym (c.deref_mut-2.ensures.value ∙ first)) c.in_ok-revoked.ensures.held

pub grant-requires-clause-held : goal.grant-requires-clause-held
grant-requires-clause-held c =
    let first = take_at c.page_rows.new.rows _ c.in_ok-rows.rows.len (c.page_rows.auto.rows ∙ c.deref_mut-2.ensures.len) in
    subst (All (λ (row : PlanRow). row.target ≤ row.held)) (sym (c.deref.ensures.value ∙ first)) c.in_ok-paged.ensures.held

pub free_after-requires : goal.free_after-requires
free_after-requires c =
    let pool = c.args.pool.now in
    let state = c.args.state in
    let policy = policy_in c.args.numbers.now in
    let fallen = pool_revoked policy state pool in
    let whole = take_at c.plan_falls.new.rows _ c.in_ok-rows.rows.len (c.plan_falls.auto.rows ∙ c.deref_mut.ensures.len) in
    let rows : plan_rows c.deref_mut-2.result.now ≡ rows_of fallen.guests = ap plan_rows (c.deref_mut-2.ensures.value ∙ whole) ∙ c.in_ok-revoked.ensures.rows in
    let told = c.as_slice.ensures ∙ c.in_ok-paged.ensures.list in
    let sum = (paging-told state policy.page_rate c.as_slice.result.now (plan_rows c.deref_mut-2.result.now) fallen.guests rows told).1 in
    let given = given-within state policy.page_rate fallen.guests in
    let held = held-fallen pool (revocations_in policy state pool) in
    no_more _ _ _ _ sum given held

pub plan_rebalancing-requires-clause-length : goal.plan_rebalancing-requires-clause-length
plan_rebalancing-requires-clause-length c = same_rows _ _ _ _ c.deref_mut-3.ensures.len c.in_ok-rows.rows.ok.0 c.in_ok-rows.ensures.length

pub plan_rebalancing-requires-clause-held : goal.plan_rebalancing-requires-clause-held
plan_rebalancing-requires-clause-held c =
    let whole = take_at c.page_rows.new.rows _ c.in_ok-rows.rows.len (c.page_rows.auto.rows ∙ c.deref_mut-2.ensures.len) in
    subst (All (λ (row : PlanRow). row.target ≤ row.held)) (sym (c.deref_mut-3.ensures.value ∙ whole)) c.in_ok-paged.ensures.held

pub plan_rebalancing-requires-clause-can : goal.plan_rebalancing-requires-clause-can
plan_rebalancing-requires-clause-can c =
    let whole = take_at c.page_rows.new.rows _ c.in_ok-rows.rows.len (c.page_rows.auto.rows ∙ c.deref_mut-2.ensures.len) in
    subst (λ (rows : List PlanRow). CanRise (plan_rows rows) c.in_ok-granted.granted) (c.deref.ensures.value ∙ whole ∙ sym (c.deref_mut-3.ensures.value ∙ whole))
    (can-rise (pool_of c.free_after.result c.deref.result.now) c.in_ok-granted.granted c.in_ok-granted.ensures.applies)

-- the free frames and the rows are those of the pool once targets fell and guests gave up frames
pub returns-clause-granted_fairly : goal.returns-clause-granted_fairly
returns-clause-granted_fairly c =
    let pool = c.args.pool.now in
    let state = c.args.state in
    let policy = policy_in c.args.numbers.now in
    let first = take_at c.plan_falls.new.rows _ c.in_ok-rows.rows.len (c.plan_falls.auto.rows ∙ c.deref_mut.ensures.len) in
    let rows = ap plan_rows (c.deref_mut-2.ensures.value ∙ first) ∙ c.in_ok-revoked.ensures.rows in
    let free = c.free_after.ensures ∙ ap (λ (told : List Paged). pool.free + frames_in told) c.as_slice.ensures in
    let planned = pool-planned policy state pool c.free_after.result c.in_ok-paged.paged (plan_rows c.deref_mut-2.result.now) (plan_rows c.page_rows.new.rows) rows
    c.in_ok-paged.ensures.list c.in_ok-paged.ensures.rows free in
    subst (λ (p : Pool). IsGrantList state policy.thresholds policy.tax p c.in_ok-granted.granted)
    (ap (λ (rows : List PlanRow). pool_of c.free_after.result rows) (c.deref.ensures.value ∙ take_at c.page_rows.new.rows _ c.in_ok-rows.rows.len (c.page_rows.auto.rows ∙ c.deref_mut-2.ensures.len)) ∙ planned) c.in_ok-granted.ensures.list

-- the rows once targets rose
rows-after : (c : goal.After-drop-rows-2) → rows_granted (plan_rows c.deref_mut-3.result.now) c.in_ok-granted.granted ≡ rows_of (pool_settled (policy_in c.args.numbers.now) c.args.state c.args.pool.now).guests
rows-after c =
    let pool = c.args.pool.now in
    let state = c.args.state in
    let policy = policy_in c.args.numbers.now in
    let first = take_at c.plan_falls.new.rows _ c.in_ok-rows.rows.len (c.plan_falls.auto.rows ∙ c.deref_mut.ensures.len) in
    let whole = take_at c.page_rows.new.rows _ c.in_ok-rows.rows.len (c.page_rows.auto.rows ∙ c.deref_mut-2.ensures.len) in
    let rows = ap plan_rows (c.deref_mut-2.ensures.value ∙ first) ∙ c.in_ok-revoked.ensures.rows in
    let free = c.free_after.ensures ∙ ap (λ (told : List Paged). pool.free + frames_in told) c.as_slice.ensures in
    let planned = pool-planned policy state pool c.free_after.result c.in_ok-paged.paged (plan_rows c.deref_mut-2.result.now) (plan_rows c.page_rows.new.rows) rows
    c.in_ok-paged.ensures.list c.in_ok-paged.ensures.rows free in
    let seen : pool_of c.free_after.result c.deref.result.now ≡ plan_pool_of (pool_reclaimed policy state pool) = ap (λ (rows : List PlanRow). pool_of c.free_after.result rows) (c.deref.ensures.value ∙ whole) ∙ planned in
    let granted = c.in_ok-granted.ensures.exact ∙ ap (grant_list state policy.thresholds policy.tax) seen in
    ap (λ (rows : List PlanRow). rows_granted (plan_rows rows) c.in_ok-granted.granted) (c.deref_mut-3.ensures.value ∙ (whole ∙ sym (c.deref.ensures.value ∙ whole)))
    ∙ rows-settled policy state pool (pool_of c.free_after.result c.deref.result.now) c.in_ok-granted.granted seen granted c.in_ok-granted.ensures.applies

pub returns-clause-plan : goal.returns-clause-plan
returns-clause-plan c =
    let pool = c.args.pool.now in
    let state = c.args.state in
    let policy = policy_in c.args.numbers.now in
    let fallen = (pool_revoked policy state pool).guests in
    let first = take_at c.plan_falls.new.rows _ c.in_ok-rows.rows.len (c.plan_falls.auto.rows ∙ c.deref_mut.ensures.len) in
    let whole = take_at c.page_rows.new.rows _ c.in_ok-rows.rows.len (c.page_rows.auto.rows ∙ c.deref_mut-2.ensures.len) in
    let rows = ap plan_rows (c.deref_mut-2.ensures.value ∙ first) ∙ c.in_ok-revoked.ensures.rows in
    let told = c.in_ok-paged.ensures.list in
    let free = c.free_after.ensures ∙ ap (λ (told : List Paged). pool.free + frames_in told) c.as_slice.ensures in
    let planned = pool-planned policy state pool c.free_after.result c.in_ok-paged.paged (plan_rows c.deref_mut-2.result.now) (plan_rows c.page_rows.new.rows) rows
    told c.in_ok-paged.ensures.rows free in
    let paged = (paging-told state policy.page_rate c.in_ok-paged.paged (plan_rows c.deref_mut-2.result.now) fallen rows told).0 in
    let seen : pool_of c.free_after.result c.deref.result.now ≡ plan_pool_of (pool_reclaimed policy state pool) = ap (λ (rows : List PlanRow). pool_of c.free_after.result rows) (c.deref.ensures.value ∙ whole) ∙ planned in
    let granted = c.in_ok-granted.ensures.exact ∙ ap (grant_list state policy.thresholds policy.tax) seen in
    let blocked = c.in_ok-blocked.ensures.list
    ∙ (ap (λ (rows : List PlanRow). waiting_from 0 (blocks_in state) (plan_rows rows)) (c.deref-2.ensures.value ∙ whole)
    ∙ (ap (λ (pool : Pool). waiting_from 0 (blocks_in state) pool.rows) planned ∙ blocked-are policy state (pool_reclaimed policy state pool))) in
    let rebalanced = c.in_ok-rebalanced.ensures.plan ∙ moves-settled policy state pool (rows_granted (plan_rows c.deref_mut-3.result.now) c.in_ok-granted.granted) (rows-after c) in
    λ i. record { revoked = c.in_ok-revoked.ensures.plan i; paged = paged i; granted = granted i; rebalanced = rebalanced i; blocked = blocked i }

pub returns-clause-rebalanced_fairly : goal.returns-clause-rebalanced_fairly
returns-clause-rebalanced_fairly c =
    let rows = plan_rows c.deref_mut-3.result.now in
    fair-settled (policy_in c.args.numbers.now) c.args.state c.args.pool.now (rows_granted rows c.in_ok-granted.granted) (rows-after c) c.in_ok-rebalanced.rebalanced
    (giving-shares (drivers_of c.args.pool.now.guests) rows c.in_ok-granted.granted (plan_rows-have_shares c.deref_mut-3.result.now)) c.in_ok-rebalanced.ensures.each_next

pub returns-clause-can : goal.returns-clause-can
returns-clause-can c =
    let pool = c.args.pool.now in
    let state = c.args.state in
    let policy = policy_in c.args.numbers.now in
    let reclaimed = pool_reclaimed policy state pool in
    let whole = returns-clause-plan c in
    let falls = subst (λ (moves : List ℕ). CanRevoke pool moves) c.in_ok-revoked.ensures.plan (can_revoke policy.tax pool c.in_ok-revoked.revoked c.in_ok-revoked.ensures.fair) in
    let list : IsGrantList state policy.thresholds policy.tax (plan_pool_of reclaimed) c.in_ok-granted.granted = returns-clause-granted_fairly c in
    let applies = grants_apply state policy.thresholds policy.tax (plan_pool_of reclaimed) c.in_ok-granted.granted list.each_next in
    let rises = can_grant (plan_pool_of reclaimed) reclaimed c.in_ok-granted.granted refl applies in
    let moves = can-settled policy state pool (rows_granted (plan_rows c.deref_mut-3.result.now) c.in_ok-granted.granted) (rows-after c) c.in_ok-rebalanced.rebalanced c.in_ok-rebalanced.ensures.applies in
    subst (λ (plan : BoundaryPlan). CanCarryOut pool plan) (sym whole)
    (can-settle policy state pool falls (subst (λ (moves : List ℕ). CanGrant reclaimed moves) (ap (λ (plan : BoundaryPlan). plan.granted) whole) rises)
    (subst (λ (moves : List ℕ). CanRevoke (pool_settled policy state pool) moves) (ap (λ (plan : BoundaryPlan). plan.rebalanced) whole) moves))

pub returns-clause-done : goal.returns-clause-done
returns-clause-done c =
    ap (λ (plan : BoundaryPlan). carried_out plan c.args.pool.now) (returns-clause-plan c) ∙ balanced-is (policy_in c.args.numbers.now) c.args.state c.args.pool.now

-- ---- where memory is wanting, nothing is said of a plan

pub returns-in_err-rows-clause-plan : goal.returns-in_err-rows-clause-plan
returns-in_err-rows-clause-plan c = IfOk-from_err c.from_residual.result _ c.from_residual.ensures.0

pub returns-in_err-rows-clause-can : goal.returns-in_err-rows-clause-can
returns-in_err-rows-clause-can c = IfOk-from_err c.from_residual.result _ c.from_residual.ensures.0

pub returns-in_err-rows-clause-done : goal.returns-in_err-rows-clause-done
returns-in_err-rows-clause-done c = IfOk-from_err c.from_residual.result _ c.from_residual.ensures.0

pub returns-in_err-rows-clause-taken_fairly : goal.returns-in_err-rows-clause-taken_fairly
returns-in_err-rows-clause-taken_fairly c = IfOk-from_err c.from_residual.result _ c.from_residual.ensures.0

pub returns-in_err-rows-clause-enough : goal.returns-in_err-rows-clause-enough
returns-in_err-rows-clause-enough c = IfOk-from_err c.from_residual.result _ c.from_residual.ensures.0

pub returns-in_err-rows-clause-granted_fairly : goal.returns-in_err-rows-clause-granted_fairly
returns-in_err-rows-clause-granted_fairly c = IfOk-from_err c.from_residual.result _ c.from_residual.ensures.0

pub returns-in_err-rows-clause-rebalanced_fairly : goal.returns-in_err-rows-clause-rebalanced_fairly
returns-in_err-rows-clause-rebalanced_fairly c = IfOk-from_err c.from_residual.result _ c.from_residual.ensures.0

pub returns-in_err-revoked-clause-plan : goal.returns-in_err-revoked-clause-plan
returns-in_err-revoked-clause-plan c = IfOk-from_err c.from_residual-in_err-revoked.result _ c.from_residual-in_err-revoked.ensures.0

pub returns-in_err-revoked-clause-can : goal.returns-in_err-revoked-clause-can
returns-in_err-revoked-clause-can c = IfOk-from_err c.from_residual-in_err-revoked.result _ c.from_residual-in_err-revoked.ensures.0

pub returns-in_err-revoked-clause-done : goal.returns-in_err-revoked-clause-done
returns-in_err-revoked-clause-done c = IfOk-from_err c.from_residual-in_err-revoked.result _ c.from_residual-in_err-revoked.ensures.0

pub returns-in_err-revoked-clause-taken_fairly : goal.returns-in_err-revoked-clause-taken_fairly
returns-in_err-revoked-clause-taken_fairly c = IfOk-from_err c.from_residual-in_err-revoked.result _ c.from_residual-in_err-revoked.ensures.0

pub returns-in_err-revoked-clause-enough : goal.returns-in_err-revoked-clause-enough
returns-in_err-revoked-clause-enough c = IfOk-from_err c.from_residual-in_err-revoked.result _ c.from_residual-in_err-revoked.ensures.0

pub returns-in_err-revoked-clause-granted_fairly : goal.returns-in_err-revoked-clause-granted_fairly
returns-in_err-revoked-clause-granted_fairly c = IfOk-from_err c.from_residual-in_err-revoked.result _ c.from_residual-in_err-revoked.ensures.0

pub returns-in_err-revoked-clause-rebalanced_fairly : goal.returns-in_err-revoked-clause-rebalanced_fairly
returns-in_err-revoked-clause-rebalanced_fairly c = IfOk-from_err c.from_residual-in_err-revoked.result _ c.from_residual-in_err-revoked.ensures.0

pub returns-in_err-paged-clause-plan : goal.returns-in_err-paged-clause-plan
returns-in_err-paged-clause-plan c = IfOk-from_err c.from_residual-in_err-paged.result _ c.from_residual-in_err-paged.ensures.0

pub returns-in_err-paged-clause-can : goal.returns-in_err-paged-clause-can
returns-in_err-paged-clause-can c = IfOk-from_err c.from_residual-in_err-paged.result _ c.from_residual-in_err-paged.ensures.0

pub returns-in_err-paged-clause-done : goal.returns-in_err-paged-clause-done
returns-in_err-paged-clause-done c = IfOk-from_err c.from_residual-in_err-paged.result _ c.from_residual-in_err-paged.ensures.0

pub returns-in_err-paged-clause-taken_fairly : goal.returns-in_err-paged-clause-taken_fairly
returns-in_err-paged-clause-taken_fairly c = IfOk-from_err c.from_residual-in_err-paged.result _ c.from_residual-in_err-paged.ensures.0

pub returns-in_err-paged-clause-enough : goal.returns-in_err-paged-clause-enough
returns-in_err-paged-clause-enough c = IfOk-from_err c.from_residual-in_err-paged.result _ c.from_residual-in_err-paged.ensures.0

pub returns-in_err-paged-clause-granted_fairly : goal.returns-in_err-paged-clause-granted_fairly
returns-in_err-paged-clause-granted_fairly c = IfOk-from_err c.from_residual-in_err-paged.result _ c.from_residual-in_err-paged.ensures.0

pub returns-in_err-paged-clause-rebalanced_fairly : goal.returns-in_err-paged-clause-rebalanced_fairly
returns-in_err-paged-clause-rebalanced_fairly c = IfOk-from_err c.from_residual-in_err-paged.result _ c.from_residual-in_err-paged.ensures.0

pub returns-in_err-granted-clause-plan : goal.returns-in_err-granted-clause-plan
returns-in_err-granted-clause-plan c = IfOk-from_err c.from_residual-in_err-granted.result _ c.from_residual-in_err-granted.ensures.0

pub returns-in_err-granted-clause-can : goal.returns-in_err-granted-clause-can
returns-in_err-granted-clause-can c = IfOk-from_err c.from_residual-in_err-granted.result _ c.from_residual-in_err-granted.ensures.0

pub returns-in_err-granted-clause-done : goal.returns-in_err-granted-clause-done
returns-in_err-granted-clause-done c = IfOk-from_err c.from_residual-in_err-granted.result _ c.from_residual-in_err-granted.ensures.0

pub returns-in_err-granted-clause-taken_fairly : goal.returns-in_err-granted-clause-taken_fairly
returns-in_err-granted-clause-taken_fairly c = IfOk-from_err c.from_residual-in_err-granted.result _ c.from_residual-in_err-granted.ensures.0

pub returns-in_err-granted-clause-enough : goal.returns-in_err-granted-clause-enough
returns-in_err-granted-clause-enough c = IfOk-from_err c.from_residual-in_err-granted.result _ c.from_residual-in_err-granted.ensures.0

pub returns-in_err-granted-clause-granted_fairly : goal.returns-in_err-granted-clause-granted_fairly
returns-in_err-granted-clause-granted_fairly c = IfOk-from_err c.from_residual-in_err-granted.result _ c.from_residual-in_err-granted.ensures.0

pub returns-in_err-granted-clause-rebalanced_fairly : goal.returns-in_err-granted-clause-rebalanced_fairly
returns-in_err-granted-clause-rebalanced_fairly c = IfOk-from_err c.from_residual-in_err-granted.result _ c.from_residual-in_err-granted.ensures.0

pub returns-in_err-blocked-clause-plan : goal.returns-in_err-blocked-clause-plan
returns-in_err-blocked-clause-plan c = IfOk-from_err c.from_residual-in_err-blocked.result _ c.from_residual-in_err-blocked.ensures.0

pub returns-in_err-blocked-clause-can : goal.returns-in_err-blocked-clause-can
returns-in_err-blocked-clause-can c = IfOk-from_err c.from_residual-in_err-blocked.result _ c.from_residual-in_err-blocked.ensures.0

pub returns-in_err-blocked-clause-done : goal.returns-in_err-blocked-clause-done
returns-in_err-blocked-clause-done c = IfOk-from_err c.from_residual-in_err-blocked.result _ c.from_residual-in_err-blocked.ensures.0

pub returns-in_err-blocked-clause-taken_fairly : goal.returns-in_err-blocked-clause-taken_fairly
returns-in_err-blocked-clause-taken_fairly c = IfOk-from_err c.from_residual-in_err-blocked.result _ c.from_residual-in_err-blocked.ensures.0

pub returns-in_err-blocked-clause-enough : goal.returns-in_err-blocked-clause-enough
returns-in_err-blocked-clause-enough c = IfOk-from_err c.from_residual-in_err-blocked.result _ c.from_residual-in_err-blocked.ensures.0

pub returns-in_err-blocked-clause-granted_fairly : goal.returns-in_err-blocked-clause-granted_fairly
returns-in_err-blocked-clause-granted_fairly c = IfOk-from_err c.from_residual-in_err-blocked.result _ c.from_residual-in_err-blocked.ensures.0

pub returns-in_err-blocked-clause-rebalanced_fairly : goal.returns-in_err-blocked-clause-rebalanced_fairly
returns-in_err-blocked-clause-rebalanced_fairly c = IfOk-from_err c.from_residual-in_err-blocked.result _ c.from_residual-in_err-blocked.ensures.0

pub returns-in_err-rebalanced-clause-plan : goal.returns-in_err-rebalanced-clause-plan
returns-in_err-rebalanced-clause-plan c = IfOk-from_err c.from_residual-in_err-rebalanced.result _ c.from_residual-in_err-rebalanced.ensures.0

pub returns-in_err-rebalanced-clause-can : goal.returns-in_err-rebalanced-clause-can
returns-in_err-rebalanced-clause-can c = IfOk-from_err c.from_residual-in_err-rebalanced.result _ c.from_residual-in_err-rebalanced.ensures.0

pub returns-in_err-rebalanced-clause-done : goal.returns-in_err-rebalanced-clause-done
returns-in_err-rebalanced-clause-done c = IfOk-from_err c.from_residual-in_err-rebalanced.result _ c.from_residual-in_err-rebalanced.ensures.0

pub returns-in_err-rebalanced-clause-taken_fairly : goal.returns-in_err-rebalanced-clause-taken_fairly
returns-in_err-rebalanced-clause-taken_fairly c = IfOk-from_err c.from_residual-in_err-rebalanced.result _ c.from_residual-in_err-rebalanced.ensures.0

pub returns-in_err-rebalanced-clause-enough : goal.returns-in_err-rebalanced-clause-enough
returns-in_err-rebalanced-clause-enough c = IfOk-from_err c.from_residual-in_err-rebalanced.result _ c.from_residual-in_err-rebalanced.ensures.0

pub returns-in_err-rebalanced-clause-granted_fairly : goal.returns-in_err-rebalanced-clause-granted_fairly
returns-in_err-rebalanced-clause-granted_fairly c = IfOk-from_err c.from_residual-in_err-rebalanced.result _ c.from_residual-in_err-rebalanced.ensures.0

pub returns-in_err-rebalanced-clause-rebalanced_fairly : goal.returns-in_err-rebalanced-clause-rebalanced_fairly
returns-in_err-rebalanced-clause-rebalanced_fairly c = IfOk-from_err c.from_residual-in_err-rebalanced.result _ c.from_residual-in_err-rebalanced.ensures.0

pub returns-in_err-rows-clause-memory : goal.returns-in_err-rows-clause-memory
returns-in_err-rows-clause-memory c = some_guest c.from_residual.result c.in_err-rows.ensures.memory

pub returns-in_err-revoked-clause-memory : goal.returns-in_err-revoked-clause-memory
returns-in_err-revoked-clause-memory c = some_guest c.from_residual-in_err-revoked.result c.in_err-revoked.ensures.memory

pub returns-in_err-paged-clause-memory : goal.returns-in_err-paged-clause-memory
returns-in_err-paged-clause-memory c =
    some_guest c.from_residual-in_err-paged.result (some_rows _ _ _ _ c.deref_mut-2.ensures.len c.in_ok-rows.rows.ok.0 c.in_ok-rows.ensures.length c.in_err-paged.ensures.memory)

pub returns-in_err-blocked-clause-memory : goal.returns-in_err-blocked-clause-memory
returns-in_err-blocked-clause-memory c =
    some_guest c.from_residual-in_err-blocked.result (some_rows _ _ _ _ c.deref-2.ensures.len c.in_ok-rows.rows.ok.0 c.in_ok-rows.ensures.length c.in_err-blocked.ensures.memory)

pub returns-in_err-rebalanced-clause-memory : goal.returns-in_err-rebalanced-clause-memory
returns-in_err-rebalanced-clause-memory c = some_guest c.from_residual-in_err-rebalanced.result c.in_err-rebalanced.ensures.memory

pub returns-clause-taken_fairly : goal.returns-clause-taken_fairly
returns-clause-taken_fairly c = c.in_ok-revoked.ensures.fair

pub returns-clause-enough : goal.returns-clause-enough
returns-clause-enough c = c.in_ok-revoked.ensures.enough
