-- Rows whose targets rise, and whose minimums rise to their floors, one after the other.
use Rattle.std.proofs.Common.{◌≡◌, ◌∙◌, ℕ, zero, suc, ◌+◌, ◌-◌, ◌*◌, ◌<◌, ◌≤◌, ◌==◌, Bool, true, false, cond, List, [], ◌∷◌, drop, get_or, length, max, min, set, ⊎_elim, sym, refl, ap, arith, add-one}
use Rattle.std.proofs.lemmas.Bool.Decides.{eqb_tells}
use Rattle.std.proofs.lemmas.List.{drop_more}
use Rattle.vm_plan.specs.declared.row.PlanRow.{PlanRow}
use Rattle.vm_plan.specs.Grants.{granted_row}
use Rattle.vm_plan.specs.PlanRow.{rows_of as plan_rows}
use Rattle.vm_plan.specs.Row.{Row}
use Rattle.vm_pool.specs.Guests.{Guests, guest_in}
use Rattle.vm_reclaim.specs.Planning.{drivers_of, floored_rows, own_driver_in, returning_in, returning_row, unmet_in, IsGrantableRow}
use Rattle.vm_reclaim.specs.Rebalance.{giving_row}

-- ---- a target rises

held-one : (held target : ℕ) (test : Bool) → (held == target) ≡ test → target ≤ held → max held (target + 1) ≡ held + cond test 1 0
held-one held target true is least = ⊎_elim (λ same. let e = same.1 in omega (arith, e)) (λ other. absurd (other_test (sym other.0 ∙ is))) (eqb_tells held target)
  where
    other_test : false ≡ true → ⊥
    other_test e = let no = e in cc
held-one held target false is least = ⊎_elim (λ same. absurd (other_test (sym is ∙ same.0))) (λ other. let e = other.1 in omega (arith, e, least)) (eqb_tells held target)
  where
    other_test : false ≡ true → ⊥
    other_test e = let no = e in cc

-- the row that a grant leaves, where it held its target
pub row-risen : (row : Row) (held : ℕ) → row.target ≤ row.held → held ≡ max row.held (row.target + 1) → record row { target = row.target + 1; held = held; demand = row.demand - 1 } ≡ granted_row row
row-risen row held least is = let more = is ∙ held-one row.held row.target (row.held == row.target) refl least in λ i. record row { target = row.target + 1; held = more i; demand = row.demand - 1 }

-- who is to rise is there, wants a page, and may have it
pub within_wanting : (rows : List PlanRow) (k : ℕ) → IsGrantableRow (plan_rows rows) k → k < length rows
within_wanting [] k can = absurd can
within_wanting (row ∷ rows) zero can = omega arith
within_wanting (row ∷ rows) (suc k) can = let rest = within_wanting rows k can in omega (arith, rest)

pub wants_here : (rows : List PlanRow) (k : ℕ) (d : PlanRow) → IsGrantableRow (plan_rows rows) k → (0 < (get_or rows k d).demand) × ((get_or rows k d).target < (get_or rows k d).cap)
wants_here [] k d can = absurd can
wants_here (row ∷ rows) zero d can = can
wants_here (row ∷ rows) (suc k) d can = wants_here rows k d can

-- ---- what is wanted

sum_more : (pages taken part later all whole : ℕ) → taken ≡ part → all ≡ part + later → pages + all ≡ whole → pages + taken + later ≡ whole
sum_more pages taken part later all whole is split done = omega (arith, is, split, done)

-- one more row is counted
pub step-unmet : (rows : List PlanRow) (n : ℕ) (row : PlanRow) (pages taken whole : ℕ) → n < length rows → row ≡ get_or rows n row → taken ≡ min row.demand (row.cap - row.target)
    → pages + unmet_in (plan_rows (drop n rows)) ≡ whole → pages + taken + unmet_in (plan_rows (drop (n + 1) rows)) ≡ whole
step-unmet rows n row pages taken whole there is part done =
    let later = unmet_in (plan_rows (drop (n + 1) rows)) in
    let split = ap (λ (l : List PlanRow). unmet_in (plan_rows l)) (drop_more rows n row there) ∙ ap (λ (r : PlanRow). min r.demand (r.cap - r.target) + later) (sym is) in
    sum_more pages taken (min row.demand (row.cap - row.target)) later (unmet_in (plan_rows (drop n rows))) whole part split done

unmet-few : (demand target cap rest rows : ℕ) → cap ≤ 262144 → rest ≤ rows * 262144 → min demand (cap - target) + rest ≤ suc rows * 262144
unmet-few demand target cap rest rows few later = omega (arith, few, later)

-- it is no more than all caps
pub few-unmet : (rows : List PlanRow) → unmet_in (plan_rows rows) ≤ length rows * 262144
few-unmet [] = omega arith
few-unmet (row ∷ rows) = unmet-few row.demand row.target row.cap (unmet_in (plan_rows rows)) (length rows) row.few_pages (few-unmet rows)

-- ---- floors

-- whether the guest at a position has a driver of its own, as it is read
pub driver-read : (guests : Guests) (k : ℕ) (own : Bool) → k < length guests → own ≡ own_driver_in (guest_in guests k) → get_or (drivers_of guests) k own ≡ own
driver-read [] k own there is = absurd (omega (arith, there))
driver-read (guest ∷ guests) zero own there is = sym is
driver-read (guest ∷ guests) (suc k) own there is = driver-read guests k own (omega (arith, there)) is

-- the minimums of the first rows rose
abbrev pub first_floored : ℕ → List Bool → List Row → List Row
first_floored zero drivers rows = rows
first_floored (suc n) (own ∷ drivers) (row ∷ rows) = giving_row own row ∷ first_floored n drivers rows
first_floored (suc n) _ _ = []

-- the next row is as it was
pub next-floored : (n : ℕ) (drivers : List Bool) (rows : List Row) (d : Row) → length rows ≡ length drivers → n < length rows → get_or (first_floored n drivers rows) n d ≡ get_or rows n d
next-floored zero drivers rows d long there = refl
next-floored (suc n) [] [] d long there = refl
next-floored (suc n) [] (row ∷ rows) d long there = absurd (omega (arith, long))
next-floored (suc n) (own ∷ drivers) [] d long there = absurd (omega (arith, long))
next-floored (suc n) (own ∷ drivers) (row ∷ rows) d long there = next-floored n drivers rows d (omega (arith, long)) (omega (arith, there))

set-floored : (n : ℕ) (drivers : List Bool) (rows : List Row) (own : Bool) (d : Row) → length rows ≡ length drivers → n < length rows
    → set (first_floored n drivers rows) n (giving_row (get_or drivers n own) (get_or rows n d)) ≡ first_floored (suc n) drivers rows
set-floored n [] [] own d long there = absurd (omega (arith, there))
set-floored n [] (row ∷ rows) own d long there = absurd (omega (arith, long))
set-floored n (first ∷ drivers) [] own d long there = absurd (omega (arith, long))
set-floored zero (first ∷ drivers) (row ∷ rows) own d long there = refl
set-floored (suc n) (first ∷ drivers) (row ∷ rows) own d long there = ap (λ later. giving_row first row ∷ later) (set-floored n drivers rows own d (omega (arith, long)) (omega (arith, there)))

all-floored : (drivers : List Bool) (rows : List Row) → length rows ≡ length drivers → first_floored (length rows) drivers rows ≡ floored_rows drivers rows
all-floored [] [] long = refl
all-floored [] (row ∷ rows) long = absurd (omega (arith, long))
all-floored (own ∷ drivers) [] long = refl
all-floored (own ∷ drivers) (row ∷ rows) long = ap (λ later. giving_row own row ∷ later) (all-floored drivers rows (omega (arith, long)))

-- a step of the loop
pub step-floored : (now old : List Row) (drivers : List Bool) (n : ℕ) (own : Bool) (new d : Row) → now ≡ first_floored n drivers old → length old ≡ length drivers → n < length old
    → get_or drivers n own ≡ own → new ≡ giving_row own (get_or now n d) → set now n new ≡ first_floored (n + 1) drivers old
step-floored now old drivers n own new d is long there driver changed =
    let read : get_or now n d ≡ get_or old n d = ap (λ (rows : List Row). get_or rows n d) is ∙ next-floored n drivers old d long there in
    (λ i. set (is i) n ((changed ∙ (λ j. giving_row (sym driver j) (read j))) i))
    ∙ (set-floored n drivers old own d long there
    ∙ ap (λ k. first_floored k drivers old) (sym (add-one n)))

-- its end
pub end-floored : (now old : List Row) (drivers : List Bool) (n : ℕ) → now ≡ first_floored n drivers old → length old ≡ length drivers → n ≤ length old → length old ≤ n → now ≡ floored_rows drivers old
end-floored now old drivers n is long within past =
    let all : n ≡ length old = omega (arith, within, past) in
    is ∙ (ap (λ k. first_floored k drivers old) all ∙ all-floored drivers old long)

-- ---- what is on its way

-- one more row is counted
pub step-returning : (drivers : List Bool) (rows : List Row) (n : ℕ) (own : Bool) (row : Row) (left count whole : ℕ) → n < length drivers → n < length rows → get_or drivers n own ≡ own → get_or rows n row ≡ row
    → count ≡ returning_row own row → left - returning_in (drop n drivers) (drop n rows) ≡ whole → left - count - returning_in (drop (n + 1) drivers) (drop (n + 1) rows) ≡ whole
step-returning drivers rows n own row left count whole own_there row_there driver here is done =
    let first = drop_more drivers n own own_there in
    let second = drop_more rows n row row_there in
    less_both left count (returning_in (drop (n + 1) drivers) (drop (n + 1) rows))
    ∙ (ap (λ k. left - (k + returning_in (drop (n + 1) drivers) (drop (n + 1) rows))) (is ∙ (λ i. returning_row (sym driver i) (sym here i)))
    ∙ (ap (λ k. left - k) (λ i. returning_in (sym first i) (sym second i)) ∙ done))
  where
    less_both : (left count later : ℕ) → left - count - later ≡ left - (count + later)
    less_both left count later = omega arith
