-- A boundary at which nothing is taken, and nothing can be granted.
use Rattle.std.proofs.Common.{◌≡◌, ◌∙◌, ℕ, zero, suc, ◌+◌, ◌-◌, ◌<◌, ◌≤◌, ◌⊎◌, ◌||◌, ◌&&◌, nat_lt, Bool, true, false, List, [], ◌∷◌, Option, Some, None, fold, map, min, if◌then◌else◌, inl, inr, ⊎_elim, sym, refl, subst, ap, arith}
use Rattle.std.proofs.lemmas.Bool.{cases_lt, false≢true, lt-ltb, ltb-true}
use Rattle.std.specs.List.{list_any}
use Rattle.std.specs.Option.{option_map, option_map_or}
use Rattle.vm_plan.specs.declared.state.State.{State}
use Rattle.vm_plan.specs.declared.state.State.TheVariants.{High}
use Rattle.vm_plan.specs.declared.thresholds.Thresholds.{Thresholds}
use Rattle.vm_plan.specs.Grants.{Pool, CanGrow, IsGrantList, granted, grant_list, grants_up_to, total_demand}
use Rattle.vm_plan.specs.Rebalancing.{rebalancing_list}
use Rattle.vm_plan.specs.Revocation.{revocation_list}
use Rattle.vm_plan.proofs.Places.{no_grants}
use Rattle.vm_plan.specs.Row.{Row, ratio_with, wanting_ratios, wants_to_grow}
use Rattle.vm_pool.specs.Changes.{granted_at}
use Rattle.vm_pool.specs.Guests.{Guests}
use Rattle.vm_pool.specs.Pool.{PoolView}
use Rattle.vm_tax.specs.Offers.{Offer, best_offer, greatest_position, one_further}
use Rattle.vm_tax.specs.Ratio.{Tax, is_less}
use Rattle.vm_reclaim.specs.Boundary.{plan_of, pool_reclaimed, pool_settled, CanCarryOut}
use Rattle.vm_reclaim.specs.declared.lists.BoundaryPlan.{BoundaryPlan}
use Rattle.vm_reclaim.specs.Planning.{paged_row, unmet_in, CanRiseInHigh, IsAtRest}
use Rattle.vm_reclaim.specs.Policy.{Policy}
use Rattle.vm_reclaim.specs.Rebalance.{giving_rows, most_moved, on_its_way, rebalances_in, unmet_demand}
use Rattle.vm_reclaim.specs.Reclaim.{counts_of, paged_from, pool_revoked, revocations_in}
use Rattle.vm_reclaim.specs.Rows.{plan_pool_of, rows_of}
use Rattle.vm_reclaim.proofs.BalanceLemmas.{unmet-are}
use Rattle.vm_reclaim.proofs.PlanningLemmas.{blocked-are, counts-are, none-waits, pool-planned}

-- ---- nothing is taken

none-revoked : (policy : Policy) (pool : PoolView) → revocations_in policy High pool ≡ []
unfolding revocation_list
none-revoked policy pool = refl

rows-stay : (policy : Policy) (pool : PoolView) → rows_of pool.guests ≡ rows_of (pool_revoked policy High pool).guests
unfolding revocation_list
rows-stay policy pool = refl

none-paged : (position page_rate : ℕ) (guests : Guests) → paged_from position (counts_of High page_rate guests) ≡ []
none-paged position page_rate [] = refl
none-paged position page_rate (guest ∷ guests) = none-paged (position + 1) page_rate guests

row-kept : (page_rate : ℕ) (row : Row) → paged_row High page_rate row ≡ row
row-kept page_rate row = let all : row.held - 0 ≡ row.held = omega arith in λ i. record row { held = all i }

rows-kept : (page_rate : ℕ) (rows : List Row) → map (paged_row High page_rate) rows ≡ rows
rows-kept page_rate [] = refl
rows-kept page_rate (row ∷ rows) = λ i. row-kept page_rate row i ∷ rows-kept page_rate rows i

-- what grants are planned from is as it was
pool-kept : (policy : Policy) (pool : PoolView) → plan_pool_of pool ≡ plan_pool_of (pool_reclaimed policy High pool)
pool-kept policy pool =
    let rows = rows_of pool.guests in
    (λ i. record { free = pool.free; rows = sym (rows-kept policy.page_rate rows) i })
    ∙ pool-planned policy High pool pool.free [] rows (map (paged_row High policy.page_rate) rows) (rows-stay policy pool)
    (sym (ap (paged_from 0) (counts-are High policy.page_rate pool.guests) ∙ none-paged 0 policy.page_rate pool.guests)) refl (omega arith)

-- ---- nothing can be granted

none-grow : (t : Thresholds) (pool : Pool) → ¬ CanGrow High t pool → (nat_lt t.soft pool.free && list_any wants_to_grow pool.rows) ≡ false
none-grow t pool none = go (nat_lt t.soft pool.free) (list_any wants_to_grow pool.rows) refl refl
  where
    go : (lets wants : Bool) → nat_lt t.soft pool.free ≡ lets → list_any wants_to_grow pool.rows ≡ wants → (lets && wants) ≡ false
    go true true free some = absurd (none (record { lets = ltb-true t.soft pool.free free; wants = some }))
    go true false free some = refl
    go false wants free some = refl

none-offered : (tax : Tax) (rows : List Row) → list_any wants_to_grow rows ≡ false → best_offer is_less (wanting_ratios tax rows) ≡ None
unfolding best_offer
none-offered tax [] none = refl
none-offered tax (row ∷ rows) none = go (wants_to_grow row) none (none-offered tax rows)
  where
    go : (wants : Bool) → (wants || list_any wants_to_grow rows) ≡ false
        → (list_any wants_to_grow rows ≡ false → best_offer is_less (wanting_ratios tax rows) ≡ None)
        → best_offer is_less ((if wants then Some (ratio_with tax row row.target) else None) ∷ wanting_ratios tax rows) ≡ None
    go true is later = absurd (false≢true (sym is))
    go false is later = ap (option_map one_further) (later is)

no-grants : (n : ℕ) (t : Thresholds) (tax : Tax) (pool : Pool) → (nat_lt t.soft pool.free && list_any wants_to_grow pool.rows) ≡ false → grants_up_to n High t tax pool ≡ []
unfolding grants_up_to
no-grants zero t tax pool none = refl
no-grants (suc n) t tax pool none = go (nat_lt t.soft pool.free) (greatest_position (wanting_ratios tax pool.rows)) none
    (λ wants. ap (option_map (λ (offer : Offer). offer.position)) (none-offered tax pool.rows wants))
  where
    go : (lets : Bool) (first : Option ℕ) → (lets && list_any wants_to_grow pool.rows) ≡ false → (list_any wants_to_grow pool.rows ≡ false → first ≡ None)
        → option_map_or (λ position. position ∷ grants_up_to n High t tax (granted pool position))
        (option_map_or (λ (position : ℕ). if lets then Some position else None) first None) [] ≡ []
    go true first is never = ap (λ (first : Option ℕ). option_map_or (λ position. position ∷ grants_up_to n High t tax (granted pool position))
        (option_map_or (λ (position : ℕ). if true then Some position else None) first None) []) (never is)
    go false None is never = refl
    go false (Some position) is never = refl

none-granted : (policy : Policy) (pool : PoolView) → ¬ CanGrow High policy.thresholds (plan_pool_of pool)
    → grant_list High policy.thresholds policy.tax (plan_pool_of (pool_reclaimed policy High pool)) ≡ []
none-granted policy pool none =
    ap (grant_list High policy.thresholds policy.tax) (sym (pool-kept policy pool))
    ∙ no-grants (total_demand (rows_of pool.guests)) policy.thresholds policy.tax (plan_pool_of pool) (none-grow policy.thresholds (plan_pool_of pool) none)

-- where guests can't rise, none can grow
no-growth : (policy : Policy) (pool : PoolView) → ¬ CanRiseInHigh policy pool → ¬ CanGrow High policy.thresholds (plan_pool_of pool)
no-growth policy pool none can = none (record { lets = inl can.lets; wants = can.wants })

-- ---- no page moves

satisfied : (demand target most : ℕ) → (nat_lt 0 demand && nat_lt target most) ≡ false → min demand (most - target) ≡ 0
satisfied demand target most never =
    ⊎_elim
    (λ (some : 0 < demand). ⊎_elim
    (λ (room : target < most). let wants = lt-ltb 0 demand some in let below = lt-ltb target most room in absurd (false≢true (sym never ∙ (λ i. wants i && below i))))
    (λ (full : most ≤ target). omega (arith, full))
    (cases_lt target most))
    (λ (content : demand ≤ 0). omega (arith, content))
    (cases_lt 0 demand)

none-unmet : (rows : List Row) → list_any wants_to_grow rows ≡ false → unmet_in rows ≡ 0
none-unmet [] none = refl
none-unmet (row ∷ rows) none = go (wants_to_grow row) refl none (none-unmet rows)
  where
    go : (wants : Bool) → wants_to_grow row ≡ wants → (wants || list_any wants_to_grow rows) ≡ false → (list_any wants_to_grow rows ≡ false → unmet_in rows ≡ 0)
        → min row.demand (row.cap - row.target) + unmet_in rows ≡ 0
    go true is never later = absurd (false≢true (sym never))
    go false is never later = λ i. satisfied row.demand row.target row.cap is i + later never i

most-none : (rebalance : ℕ) (pool : PoolView) → (rebalance ≡ 0) ⊎ (unmet_demand pool ≡ 0) → most_moved rebalance pool ≡ 0
most-none rebalance pool none = ⊎_elim (nothing-allowed rebalance (unmet_demand pool) (on_its_way pool)) (nothing-wanted rebalance (unmet_demand pool) (on_its_way pool)) none
  where
    nothing-allowed : (most wanted coming : ℕ) → most ≡ 0 → min most wanted - coming ≡ 0
    nothing-allowed most wanted coming is = omega (arith, is)

    nothing-wanted : (most wanted coming : ℕ) → wanted ≡ 0 → min most wanted - coming ≡ 0
    nothing-wanted most wanted coming is = omega (arith, is)

moves-none : (policy : Policy) (pool : PoolView) → most_moved policy.rebalance pool ≡ 0 → rebalances_in policy High pool ≡ []
unfolding rebalancing_list
moves-none policy pool none = ap (λ n. rebalancing_list policy.tax n (giving_rows pool.guests)) none

-- what stays where nothing is granted
settled-rows : (policy : Policy) (pool : PoolView) → ¬ CanGrow High policy.thresholds (plan_pool_of pool) → rows_of (pool_settled policy High pool).guests ≡ rows_of pool.guests
settled-rows policy pool none =
    let reclaimed = pool_reclaimed policy High pool in
    ap (λ (moves : List ℕ). rows_of (fold granted_at reclaimed moves).guests) (none-granted policy pool none)
    ∙ sym (ap (λ (p : Pool). p.rows) (pool-kept policy pool))

none-moved : (policy : Policy) (pool : PoolView) → ¬ CanRiseInHigh policy pool → rebalances_in policy High (pool_settled policy High pool) ≡ []
none-moved policy pool none = moves-none policy settled (most-none policy.rebalance settled (go (list_any wants_to_grow (rows_of pool.guests)) refl))
  where
    settled : PoolView
    settled = pool_settled policy High pool

    go : (wants : Bool) → list_any wants_to_grow (rows_of pool.guests) ≡ wants → (policy.rebalance ≡ 0) ⊎ (unmet_demand settled ≡ 0)
    go true is = ⊎_elim (λ (some : 0 < policy.rebalance). absurd (none (record { lets = inr some; wants = is }))) (λ (never : policy.rebalance ≤ 0). inl (omega (arith, never))) (cases_lt 0 policy.rebalance)
    go false is = inr (sym (unmet-are settled.guests) ∙ (ap unmet_in (settled-rows policy pool (no-growth policy pool none)) ∙ none-unmet (rows_of pool.guests) is))

-- ---- the plan

abbrev pub no_plan : BoundaryPlan
no_plan = record { revoked = []; paged = []; granted = []; rebalanced = []; blocked = [] }

plan-is-nothing : (policy : Policy) (pool : PoolView) → ¬ CanRiseInHigh policy pool → no_plan ≡ plan_of policy High pool
plan-is-nothing policy pool none =
    let reclaimed = pool_reclaimed policy High pool in
    let moved = none-moved policy pool none in
    let revoked = none-revoked policy pool in
    let paged = none-paged 0 policy.page_rate (pool_revoked policy High pool).guests in
    let granted = none-granted policy pool (no-growth policy pool none) in
    let blocked = sym (none-waits 0 (rows_of reclaimed.guests)) ∙ blocked-are policy High reclaimed in
    λ i. record { revoked = sym revoked i; paged = sym paged i; granted = sym granted i; rebalanced = sym moved i; blocked = blocked i }

pub plan-at-rest : (policy : Policy) (state : State) (pool : PoolView) → IsAtRest policy state pool → no_plan ≡ plan_of policy state pool
plan-at-rest policy state pool rest = subst (λ (s : State). no_plan ≡ plan_of policy s pool) (sym rest.0) (plan-is-nothing policy pool rest.1)

pub grants-at-rest : (policy : Policy) (state : State) (pool : PoolView) → IsAtRest policy state pool
    → IsGrantList state policy.thresholds policy.tax (plan_pool_of (pool_reclaimed policy state pool)) []
grants-at-rest policy state pool rest =
    let t = policy.thresholds in
    subst (λ (s : State). IsGrantList s t policy.tax (plan_pool_of (pool_reclaimed policy s pool)) []) (sym rest.0)
    (subst (λ (p : Pool). IsGrantList High t policy.tax p []) (pool-kept policy pool)
    (no_grants High t policy.tax (plan_pool_of pool) (no-growth policy pool rest.1)))

pub can-do-nothing : (pool : PoolView) (plan : BoundaryPlan) → plan ≡ no_plan → CanCarryOut pool plan
can-do-nothing pool plan is = subst (λ (plan : BoundaryPlan). CanCarryOut pool plan) (sym is) (record { can_fall = tt; can_give_up = tt; can_rise = tt; can_rebalance = tt })
