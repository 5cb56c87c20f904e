-- Moves that can be done one after the other.
use Rattle.std.proofs.Common.{◌≡◌, ◌∙◌, ◌≢◌, ℕ, zero, suc, ◌+◌, ◌-◌, ◌<◌, ◌≤◌, ◌==◌, Bool, true, false, cond, List, [], ◌∷◌, ◌++◌, Option, Some, None, get_or, length, max, slice_get, slice_set, ⊎_elim, sym, refl, ap, subst, arith}
use Rattle.std.specs.Prelude.{IsSomeAnd}
use Rattle.std.specs.Option.{option_map_or}
use Rattle.std.proofs.lemmas.Bool.Decides.{eqb_tells}
use Rattle.std.proofs.lemmas.List.{map-set}
use Rattle.vm_plan.specs.declared.row.PlanRow.{PlanRow}
use Rattle.vm_plan.specs.Grants.{Pool, granted as granted_pool, granted_row, pool_after, IsGrantable}
use Rattle.vm_plan.specs.Moves.{EachMove}
use Rattle.vm_plan.specs.PlanRow.{row_of as plan_row, rows_of as plan_rows}
use Rattle.vm_plan.specs.Revocation.{revoked_row, rows_after, IsRevocable}
use Rattle.vm_plan.specs.Row.{Row, change_at}
use Rattle.vm_plan.proofs.ChangeLemmas.{row_changed, row_unchanged}
use Rattle.vm_plan.proofs.Places.{length-change}
use Rattle.vm_steer.specs.declared.outcome.Outcome.{Outcome}
use Rattle.vm_steer.specs.Deciding.{by_position, entries_of, outcome_at, target_at, Course}
use Rattle.vm_steer.specs.Turns.{differences_at, rows_raised, AreLowered, AreRaised, CanLower, CanRise, IsGrantableRow}

-- ---- rows of a plan

plan_here : (rows : List PlanRow) (k : ℕ) (was : PlanRow) → k < length rows → was ≡ get_or rows k was → slice_get (plan_rows rows) k ≡ Some (plan_row was)
plan_here [] k was there is = absurd (omega (arith, there))
plan_here (row ∷ rows) zero was there is = ap (λ (r : PlanRow). Some (plan_row r)) (sym is)
plan_here (row ∷ rows) (suc k) was there is = plan_here rows k was (omega (arith, there)) is

-- one row is written
pub plan_set : (change : Row → Row) (rows : List PlanRow) (k : ℕ) (was new : PlanRow) → k < length rows → was ≡ get_or rows k was → plan_row new ≡ change (plan_row was)
    → plan_rows (slice_set rows k new) ≡ change_at change (plan_rows rows) k
plan_set change rows k was new there is same =
    map-set plan_row rows k new
    ∙ (ap (λ (row : Row). slice_set (plan_rows rows) k row) same
    ∙ sym (ap (λ (o : Option Row). option_map_or (λ row. slice_set (plan_rows rows) k (change row)) o (plan_rows rows)) (plan_here rows k was there is)))

-- who can be lowered is there
pub within_rows : (rows : List PlanRow) (k : ℕ) → IsRevocable (plan_rows rows) k → k < length rows
within_rows [] k can = absurd can
within_rows (row ∷ rows) zero can = omega arith
within_rows (row ∷ rows) (suc k) can = let rest = within_rows rows k can in omega (arith, rest)

-- who can rise is there
pub within_wanting : (rows : List PlanRow) (k : ℕ) → IsGrantableRow (plan_rows rows) k → k < length rows
within_wanting [] k can = absurd can
within_wanting (row ∷ rows) zero can = omega arith
within_wanting (row ∷ rows) (suc k) can = let rest = within_wanting rows k can in omega (arith, rest)

held-one : (held target : ℕ) (test : Bool) → (held == target) ≡ test → target ≤ held → max held (target + 1) ≡ held + cond test 1 0
held-one held target true is least = ⊎_elim (λ same. let e = same.1 in omega (arith, e)) (λ other. absurd (other_test (sym other.0 ∙ is))) (eqb_tells held target)
  where
    other_test : false ≡ true → ⊥
    other_test e = let no = e in cc
held-one held target false is least = ⊎_elim (λ same. absurd (other_test (sym is ∙ same.0))) (λ other. let e = other.1 in omega (arith, e, least)) (eqb_tells held target)
  where
    other_test : false ≡ true → ⊥
    other_test e = let no = e in cc

-- the row that a grant leaves
pub row-risen : (row : Row) (held : ℕ) → row.target ≤ row.held → held ≡ max row.held (row.target + 1) → record row { target = row.target + 1; held = held; demand = row.demand - 1 } ≡ granted_row row
row-risen row held least is = let more = is ∙ held-one row.held row.target (row.held == row.target) refl least in λ i. record row { target = row.target + 1; held = more i; demand = row.demand - 1 }

-- ---- lists of moves

pub can_lower : (rows : List Row) (moves : List ℕ) → EachMove (λ before position. IsRevocable (rows_after rows before) position) moves → CanLower rows moves
can_lower rows [] each = tt
can_lower rows (position ∷ moves) each =
    (each 0 (omega arith), can_lower (change_at revoked_row rows position) moves (λ i within. each (suc i) (omega (arith, within))))

both_in : (o : Option Row) → IsSomeAnd o (λ row. 0 < row.demand) → IsSomeAnd o (λ row. row.target < row.cap) → IsSomeAnd o (λ row. (0 < row.demand) × (row.target < row.cap))
both_in None demand room = absurd demand
both_in (Some row) demand room = (demand, room)

pub can_rise : (pool : Pool) (moves : List ℕ) → EachMove (λ before position. IsGrantable (pool_after pool before) position) moves → CanRise pool.rows moves
can_rise pool [] each = tt
can_rise pool (position ∷ moves) each =
    let first = each 0 (omega arith) in
    (both_in (slice_get pool.rows position) first.demand first.below_cap, can_rise (granted_pool pool position) moves (λ i within. each (suc i) (omega (arith, within))))

-- the rows of a pool after grants
pub rows-raised : (pool : Pool) (moves : List ℕ) → rows_raised pool.rows moves ≡ (pool_after pool moves).rows
rows-raised pool [] = refl
rows-raised pool (position ∷ moves) = rows-raised (granted_pool pool position) moves

-- ---- targets

some_lowered : (o : Option Row) → IsSomeAnd o (λ row. row.min < row.target) → (after : Option Row) → ((row : Row) → o ≡ Some row → after ≡ Some (revoked_row row))
    → option_map_or (λ row. row.target) o 0 ≡ option_map_or (λ row. row.target) after 0 + 1
some_lowered None can after changed = absurd can
some_lowered (Some row) can after changed = let is = ap (λ (o : Option Row). option_map_or (λ row. row.target) o 0) (changed row refl) in omega (arith, is, can)

some_raised : (o : Option Row) → IsSomeAnd o (λ row. (0 < row.demand) × (row.target < row.cap)) → (after : Option Row) → ((row : Row) → o ≡ Some row → after ≡ Some (granted_row row))
    → option_map_or (λ row. row.target) after 0 ≡ option_map_or (λ row. row.target) o 0 + 1
some_raised None can after changed = absurd can
some_raised (Some row) can after changed = ap (λ (o : Option Row). option_map_or (λ row. row.target) o 0) (changed row refl)

-- one entry more, where the position is its own or another
entry_more : (position p n : ℕ) (moves : List ℕ) → n ≡ entries_of position moves → (p ≡ position → entries_of position (p ∷ moves) ≡ n + 1) × (p ≢ position → entries_of position (p ∷ moves) ≡ n)
entry_more position p n moves is =
    ⊎_elim (λ same. (λ e. let t = same.0 in rw t (omega (arith, is)), λ ne. absurd (ne same.1))) (λ other. (λ e. absurd (other.1 e), λ ne. let t = other.0 in rw t (omega (arith, is)))) (eqb_tells p position)

pub lowered : (rows : List Row) (moves : List ℕ) → CanLower rows moves → AreLowered moves rows (rows_after rows moves)
lowered rows [] can = record { same_length = refl; targets = λ position h. omega arith }
lowered rows (p ∷ moves) can =
    let next = change_at revoked_row rows p in
    let later = lowered next moves can.1 in
    let same = length-change revoked_row rows p in record {
      same_length = later.same_length ∙ same;
      targets = λ position h.
          let rest : target_at next position ≡ target_at (rows_after next moves) position + entries_of position moves = later.targets position (omega (arith, same)) in
          let more = entry_more position p (entries_of position moves) moves refl in
          ⊎_elim
          (λ s. let e : p ≡ position = s.1 in
          let one : target_at rows p ≡ target_at next p + 1 = some_lowered (slice_get rows p) can.0 (slice_get next p) (λ row at. row_changed revoked_row rows p row at) in
          let here : target_at rows position ≡ target_at next position + 1 = subst (λ (k : ℕ). target_at rows k ≡ target_at next k + 1) e one in
          let n = more.0 e in omega (arith, rest, here, n))
          (λ o. let ne = o.1 in
          let here : target_at next position ≡ target_at rows position = ap (λ (o : Option Row). option_map_or (λ row. row.target) o 0) (row_unchanged revoked_row rows p position (λ e. ne (sym e))) in
          let n = more.1 ne in omega (arith, rest, here, n))
          (eqb_tells p position);
    }

pub raised : (rows : List Row) (moves : List ℕ) → CanRise rows moves → AreRaised moves rows (rows_raised rows moves)
raised rows [] can = record { same_length = refl; targets = λ position h. omega arith }
raised rows (p ∷ moves) can =
    let next = change_at granted_row rows p in
    let later = raised next moves can.1 in
    let same = length-change granted_row rows p in record {
      same_length = later.same_length ∙ same;
      targets = λ position h.
          let rest : target_at (rows_raised next moves) position ≡ target_at next position + entries_of position moves = later.targets position (omega (arith, same)) in
          let more = entry_more position p (entries_of position moves) moves refl in
          ⊎_elim
          (λ s. let e : p ≡ position = s.1 in
          let one : target_at next p ≡ target_at rows p + 1 = some_raised (slice_get rows p) can.0 (slice_get next p) (λ row at. row_changed granted_row rows p row at) in
          let here : target_at next position ≡ target_at rows position + 1 = subst (λ (k : ℕ). target_at next k ≡ target_at rows k + 1) e one in
          let n = more.0 e in omega (arith, rest, here, n))
          (λ o. let ne = o.1 in
          let here : target_at next position ≡ target_at rows position = ap (λ (o : Option Row). option_map_or (λ row. row.target) o 0) (row_unchanged granted_row rows p position (λ e. ne (sym e))) in
          let n = more.1 ne in omega (arith, rest, here, n))
          (eqb_tells p position);
    }

-- ---- what is decided, by targets

-- the target that is read
pub target_read : (rows : List PlanRow) (k : ℕ) (row : PlanRow) → k < length rows → row ≡ get_or rows k row → target_at (plan_rows rows) k ≡ row.target
target_read rows k row there is = ap (λ (o : Option Row). option_map_or (λ row. row.target) o 0) (plan_here rows k row there is)

same_below : (f g : ℕ → Outcome) (n : ℕ) → ((k : ℕ) → k < n → f k ≡ g k) → by_position f n ≡ by_position g n
same_below f g zero same = refl
same_below f g (suc n) same = λ i. same_below f g n (λ k h. same k (omega arith)) i ++ same n (omega arith) i ∷ []

pub outcomes_are : (course : Course) (rows fallen risen : List Row) → AreLowered course.revoked rows fallen → AreRaised course.granted fallen risen → AreLowered course.rebalanced risen course.rows
    → by_position (differences_at rows fallen risen course.rows) (length rows) ≡ by_position (outcome_at course) (length course.rows)
outcomes_are course rows fallen risen down up last =
    let n : length course.rows ≡ length rows = last.same_length ∙ (up.same_length ∙ down.same_length) in
    let same : (k : ℕ) → k < length rows → differences_at rows fallen risen course.rows k ≡ outcome_at course k = λ k h.
    let a = down.targets k h in
    let b = up.targets k (omega (arith, down.same_length)) in
    let c = last.targets k (omega (arith, down.same_length, up.same_length)) in
    let revoked : target_at rows k - target_at fallen k ≡ entries_of k course.revoked = omega (arith, a) in
    let granted : target_at risen k - target_at fallen k ≡ entries_of k course.granted = omega (arith, b) in
    let rebalanced : target_at risen k - target_at course.rows k ≡ entries_of k course.rebalanced = omega (arith, c) in
    λ i. record { revoked = revoked i; granted = granted i; rebalanced = rebalanced i; target = target_at course.rows k } in
    same_below (differences_at rows fallen risen course.rows) (outcome_at course) (length rows) same
    ∙ ap (by_position (outcome_at course)) (sym n)
