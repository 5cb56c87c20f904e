-- Sums over rows, where one of them changes.
use Rattle.std.proofs.Common.{◌≡◌, ℕ, zero, suc, ◌+◌, ◌<◌, ◌≤◌, List, [], ◌∷◌, Option, IsSomeAnd, All, length, sum_by, slice_get, slice_set, ⊎_elim, sym, ap, subst, arith}
use Rattle.std.specs.Option.{option_map_or}
use Rattle.std.proofs.lemmas.List.{length-map}
use Rattle.std.proofs.lemmas.List.Sums.{sum_by-set, sum_by-le}
use Rattle.std.proofs.lemmas.Option.{slice_get_cases}
use Rattle.vm_plan.specs.declared.row.PlanRow.{PlanRow}
use Rattle.vm_plan.specs.Row.{Row, change_at}
use Rattle.vm_plan.specs.PlanRow.{row_of, rows_of}
use Rattle.vm_plan.specs.Grants.{granted_row, total_demand}

-- a sum changes as its row does
pub sum-change : (number : Row → ℕ) (change : Row → Row) (less more : ℕ) (P : Row → Type 0) → ((row : Row) → P row → number (change row) + less ≡ number row + more)
    → (rows : List Row) (k : ℕ) → IsSomeAnd (slice_get rows k) P → sum_by number (change_at change rows k) + less ≡ sum_by number rows + more
sum-change number change less more P changes rows k h =
    ⊎_elim
    (λ here.
    let one = changes here.0 (subst (λ (o : Option Row). IsSomeAnd o P) here.2 h) in
    let sums = sum_by-set number rows k (change here.0) here.0 here.1 in
    let old = ap number here.3 in
    let all : sum_by number (slice_set rows k (change here.0)) + less ≡ sum_by number rows + more = omega (arith, sums, old, one) in
    subst (λ (o : Option Row). sum_by number (option_map_or (λ row. slice_set rows k (change row)) o rows) + less ≡ sum_by number rows + more) (sym here.2) all)
    (λ past. absurd (subst (λ (o : Option Row). IsSomeAnd o P) past.1 h))
    (slice_get_cases rows k).1

-- a grant serves demand
pub demand-granted : (rows : List Row) (k : ℕ) → IsSomeAnd (slice_get rows k) (λ row. 0 < row.demand) → suc (total_demand (change_at granted_row rows k)) ≡ total_demand rows
demand-granted rows k h =
    let less = sum-change (λ (row : Row). row.demand) granted_row 1 0 (λ (row : Row). 0 < row.demand) (λ row wants. omega arith) rows k h in
    omega (arith, less)

-- what guests are meant to hold together
abbrev pub total_target : List Row → ℕ
total_target rows = sum_by (λ row. row.target) rows

targets_within : (rows : List PlanRow) → All (λ row. row.target ≤ 262144) (rows_of rows)
targets_within [] k d l = absurd (omega arith)
targets_within (r ∷ rows) zero d l = omega (arith, r.within_cap, r.few_pages)
targets_within (r ∷ rows) (suc k) d l = targets_within rows k d (omega arith)

-- which is no more than as many guests may have
pub few_targets : (rows : List PlanRow) → length rows ≤ 256 → total_target (rows_of rows) ≤ 67108864
few_targets rows few =
    let within = sum_by-le (λ (row : Row). row.target) 262144 (rows_of rows) (targets_within rows) in
    let wide = length-map rows row_of in
    omega (arith, within, wide)
