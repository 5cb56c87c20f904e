-- What is meant to be held, after the decisions.
use Rattle.std.proofs.Common.{◌≡◌, ◌∙◌, ℕ, zero, suc, ◌+◌, ◌<◌, ◌≤◌, ◌==◌, ◌&&◌, ◌⊎◌, inl, inr, nat_lt, max, Bool, true, false, true≢false, List, [], ◌∷◌, Option, Some, None, slice_get, slice_set, ⊎_elim, ◌≢◌, sym, refl, ap, subst, arith, if◌then◌else◌}
use Rattle.std.specs.Prelude.{⊤}
use Rattle.std.specs.Option.{option_map_or}
use Rattle.std.proofs.lemmas.Bool.Decides.{nat_tests}
use Rattle.vm_plan.specs.declared.state.State.{State}
use Rattle.vm_plan.specs.declared.state.State.TheVariants.{High, Soft, Hard, Low}
use Rattle.vm_plan.specs.declared.thresholds.Thresholds.{Thresholds}
use Rattle.vm_plan.specs.Grants.{Pool, frames_for, granted, granted_row, grants_up_to, may_grant, next_grant, outbids_others, pool_after, total_demand}
use Rattle.vm_plan.specs.Revocation.{revoked_row, rows_after}
use Rattle.vm_plan.specs.Row.{Row, change_at, wanting_ratios}
use Rattle.vm_samples.specs.Policies.{PolicyView}
use Rattle.std.specs.Prelude.{Result, Ok, Err}
use Rattle.vm_steer.specs.declared.fate.LeftDomain.{LeftDomain}
use Rattle.vm_steer.specs.NumbersView.{NumbersView}
use Rattle.vm_steer.specs.Told.{rows_in}
use Rattle.vm_steer.specs.Deciding.{course_of, free_of, rebalances_in, revocations_in, tax_of, thresholds_in, total_held, total_targets}
use Rattle.vm_tax.specs.Offers.{greatest_position}
use Rattle.vm_tax.specs.Ratio.{Tax}

-- ---- sums

pub change_behind : (change : Row → Row) (row : Row) (rows : List Row) (k : ℕ) → change_at change (row ∷ rows) (suc k) ≡ row ∷ change_at change rows k
change_behind change row rows k = go (slice_get rows k)
  where
    go : (o : Option Row) → option_map_or (λ r. slice_set (row ∷ rows) (suc k) (change r)) o (row ∷ rows) ≡ row ∷ option_map_or (λ r. slice_set rows k (change r)) o rows
    go None = refl
    go (Some r) = refl

-- a row that loses a unit
targets_fall : (rows : List Row) (k : ℕ) → total_targets (change_at revoked_row rows k) ≤ total_targets rows
targets_fall [] k = omega arith
targets_fall (row ∷ rows) zero = omega arith
targets_fall (row ∷ rows) (suc k) =
    let later = targets_fall rows k in
    let split = ap total_targets (change_behind revoked_row row rows k) in omega (arith, later, split)

held_stays : (rows : List Row) (k : ℕ) → total_held (change_at revoked_row rows k) ≡ total_held rows
held_stays [] k = refl
held_stays (row ∷ rows) zero = refl
held_stays (row ∷ rows) (suc k) = ap total_held (change_behind revoked_row row rows k) ∙ ap (λ n. row.held + n) (held_stays rows k)

pub all_fall : (rows : List Row) (moves : List ℕ) → total_targets (rows_after rows moves) ≤ total_targets rows
all_fall rows [] = omega arith
all_fall rows (k ∷ moves) = let one = targets_fall rows k in let later = all_fall (change_at revoked_row rows k) moves in omega (arith, one, later)

all_stay : (rows : List Row) (moves : List ℕ) → total_held (rows_after rows moves) ≡ total_held rows
all_stay rows [] = refl
all_stay rows (k ∷ moves) = all_stay (change_at revoked_row rows k) moves ∙ held_stays rows k

-- ---- grants

frames_at : List Row → ℕ → ℕ
frames_at rows k = option_map_or frames_for (slice_get rows k) 0

held_grows : (rows : List Row) (k : ℕ) → total_held (change_at granted_row rows k) ≡ total_held rows + frames_at rows k
unfolding frames_at
held_grows [] k = refl
held_grows (row ∷ rows) zero = omega arith
held_grows (row ∷ rows) (suc k) = let later = held_grows rows k in let split = ap total_held (change_behind granted_row row rows k) in omega (arith, later, split)

one_frame : (row : Row) → frames_for row ≤ 1
one_frame row = go (row.held == row.target)
  where
    go : (b : Bool) → (if b then 1 else 0) ≤ 1
    go true = omega arith
    go false = omega arith

few_frames : (rows : List Row) (k : ℕ) → frames_at rows k ≤ 1
unfolding frames_at
few_frames rows k = go (slice_get rows k)
  where
    go : (o : Option Row) → option_map_or frames_for o 0 ≤ 1
    go None = omega arith
    go (Some row) = one_frame row

-- a grant needs a free frame
some_free : (state : State) (t : Thresholds) (tax : Tax) (pool : Pool) (k : ℕ) → may_grant state t tax pool k ≡ true → 0 < pool.free
some_free High t tax pool k e = grind (arith, nat_tests)
some_free Soft t tax pool k e = above t.hard pool.free (outbids_others tax pool.rows k) e
  where
    above : (n free : ℕ) (b : Bool) → (nat_lt n free && b) ≡ true → 0 < free
    above n free b e = grind (arith, nat_tests)
some_free Hard t tax pool k e = above t.low pool.free (outbids_others tax pool.rows k) e
  where
    above : (n free : ℕ) (b : Bool) → (nat_lt n free && b) ≡ true → 0 < free
    above n free b e = grind (arith, nat_tests)
some_free Low t tax pool k e = absurd (true≢false (sym e))

next_free : (state : State) (t : Thresholds) (tax : Tax) (pool : Pool) (k : ℕ) → next_grant state t tax pool ≡ Some k → 0 < pool.free
next_free state t tax pool k e = go (greatest_position (wanting_ratios tax pool.rows)) e
  where
    chosen : (b : Bool) (q : ℕ) → may_grant state t tax pool q ≡ b → (if b then Some q else None) ≡ Some k → 0 < pool.free
    chosen true q may is = some_free state t tax pool q may
    chosen false q may is = let no = is in cc

    go : (o : Option ℕ) → option_map_or (λ position. if may_grant state t tax pool position then Some position else None) o None ≡ Some k → 0 < pool.free
    go None is = let no = is in cc
    go (Some q) is = chosen (may_grant state t tax pool q) q refl is

-- frames are given out, and none is made
conserved : (n : ℕ) (state : State) (t : Thresholds) (tax : Tax) (pool : Pool) → let after = pool_after pool (grants_up_to n state t tax pool) in after.free + total_held after.rows ≡ pool.free + total_held pool.rows
unfolding grants_up_to
conserved zero state t tax pool = refl
conserved (suc n) state t tax pool = go (next_grant state t tax pool) refl (λ k. conserved n state t tax (granted pool k))
  where
    step : (k : ℕ) → 0 < pool.free → (granted pool k).free + total_held (granted pool k).rows ≡ pool.free + total_held pool.rows
    step k some = let grown = held_grows pool.rows k in let few = few_frames pool.rows k in unfold frames_at in omega (arith, grown, few, some)

    go : (o : Option ℕ) → next_grant state t tax pool ≡ o
        → ((k : ℕ) → let later = pool_after (granted pool k) (grants_up_to n state t tax (granted pool k)) in later.free + total_held later.rows ≡ (granted pool k).free + total_held (granted pool k).rows)
        → let after = pool_after pool (option_map_or (λ position. position ∷ grants_up_to n state t tax (granted pool position)) o []) in after.free + total_held after.rows ≡ pool.free + total_held pool.rows
    go None is later = refl
    go (Some k) is later = later k ∙ step k (next_free state t tax pool k is)

-- ---- each row holds its target

abbrev pub AreHeld : List Row → Type 0
AreHeld [] = ⊤
AreHeld (row ∷ rows) = (row.target ≤ row.held) × AreHeld rows

held_after_fall : (rows : List Row) (k : ℕ) → AreHeld rows → AreHeld (change_at revoked_row rows k)
held_after_fall [] k h = tt
held_after_fall (row ∷ rows) zero h = (let one = h.0 in omega (arith, one), h.1)
held_after_fall (row ∷ rows) (suc k) h = subst AreHeld (sym (change_behind revoked_row row rows k)) (h.0, held_after_fall rows k h.1)

held_by_grant : (row : Row) → row.target ≤ row.held → row.target + 1 ≤ row.held + frames_for row
held_by_grant row h = go (row.held == row.target) refl
  where
    go : (b : Bool) → (row.held == row.target) ≡ b → row.target + 1 ≤ row.held + (if b then 1 else 0)
    go true e = omega (arith, h)
    go false e = let other : row.held ≢ row.target = grind (arith, nat_tests) in omega (arith, h, other)

held_after_grant : (rows : List Row) (k : ℕ) → AreHeld rows → AreHeld (change_at granted_row rows k)
held_after_grant [] k h = tt
held_after_grant (row ∷ rows) zero h = (held_by_grant row h.0, h.1)
held_after_grant (row ∷ rows) (suc k) h = subst AreHeld (sym (change_behind granted_row row rows k)) (h.0, held_after_grant rows k h.1)

held_after_falls : (rows : List Row) (moves : List ℕ) → AreHeld rows → AreHeld (rows_after rows moves)
held_after_falls rows [] h = h
held_after_falls rows (k ∷ moves) h = held_after_falls (change_at revoked_row rows k) moves (held_after_fall rows k h)

held_after_grants : (pool : Pool) (moves : List ℕ) → AreHeld pool.rows → AreHeld (pool_after pool moves).rows
held_after_grants pool [] h = h
held_after_grants pool (k ∷ moves) h = held_after_grants (granted pool k) moves (held_after_grant pool.rows k h)

targets_held : (rows : List Row) → AreHeld rows → total_targets rows ≤ total_held rows
targets_held [] h = omega arith
targets_held (row ∷ rows) h = let one = h.0 in let later = targets_held rows h.1 in omega (arith, one, later)

-- ---- the promise

none_granted : (n : ℕ) (state : State) (t : Thresholds) (tax : Tax) (pool : Pool) → pool.free ≡ 0 → grants_up_to n state t tax pool ≡ []
unfolding grants_up_to
none_granted zero state t tax pool none = refl
none_granted (suc n) state t tax pool none = go (next_grant state t tax pool) refl
  where
    go : (o : Option ℕ) → next_grant state t tax pool ≡ o → option_map_or (λ position. position ∷ grants_up_to n state t tax (granted pool position)) o [] ≡ []
    go None is = refl
    go (Some k) is = let some = next_free state t tax pool k is in absurd (omega (arith, some, none))

-- what is meant to be held is no more than before, or it is there with the rest
pub promised : (policy : PolicyView) (state : State) (rest : ℕ) (rows : List Row) → AreHeld rows
    → (total_targets (course_of policy state rest rows).rows ≤ total_targets rows) ⊎ (total_targets (course_of policy state rest rows).rows + rest ≤ policy.memory)
unfolding course_of
promised policy state rest rows held =
    let fallen = rows_after rows (revocations_in policy state rest rows) in
    let free = free_of policy rest rows in
    let pool : Pool = record { free = free; rows = fallen } in
    let n = total_demand fallen in
    let t = thresholds_in policy in
    let after = pool_after pool (grants_up_to n state t (tax_of policy) pool) in
    let down = all_fall rows (revocations_in policy state rest rows) in
    let last = all_fall after.rows (rebalances_in policy after.rows) in
    let same = all_stay rows (revocations_in policy state rest rows) in
    let whole = conserved n state t (tax_of policy) pool in
    let within = targets_held after.rows (held_after_grants pool (grants_up_to n state t (tax_of policy) pool) (held_after_falls rows (revocations_in policy state rest rows) held)) in
    ⊎_elim
    (λ none.
    let stays : total_targets after.rows ≡ total_targets fallen = ap (λ (moves : List ℕ). total_targets (pool_after pool moves).rows) (none_granted n state t (tax_of policy) pool none) in
    inl (omega (arith, down, last, stays)))
    (λ some. inr (omega (arith, last, same, whole, within, some)))
    (none_or free)
  where
    none_or : (n : ℕ) → (n ≡ 0) ⊎ (0 < n)
    none_or zero = inl refl
    none_or (suc n) = inr (omega arith)

held_most : (held target : ℕ) → target ≤ max held target
held_most held target = omega arith

-- the rows of domains hold their targets, since what was promised counts as held
pub made_held : (sights : List (Result NumbersView LeftDomain)) → AreHeld (rows_in sights)
made_held [] = tt
made_held (Err left ∷ sights) = made_held sights
made_held (Ok n ∷ sights) = (held_most n.measures.held n.limits.target, made_held sights)
