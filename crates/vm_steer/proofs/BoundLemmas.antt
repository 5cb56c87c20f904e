-- What a domain is ordered lies within its bounds.
use Rattle.std.proofs.Common.{◌≡◌, ℕ, zero, suc, ◌-◌, ◌<◌, ◌≤◌, nat_le, nat_lt, IfSome, Bool, true, false, List, [], ◌∷◌, ◌++◌, Option, Some, None, Result, Ok, Err, length, max, sym, refl, ap, subst, arith, if◌then◌else◌}
use Rattle.std.specs.Prelude.{⊤}
use Rattle.std.proofs.lemmas.Bool.Decides.{nat_tests}
use Rattle.vm_plan.specs.declared.state.State.{State}
use Rattle.vm_plan.specs.Grants.{Pool, granted, granted_row, pool_after}
use Rattle.vm_plan.specs.Revocation.{revoked_row, rows_after}
use Rattle.vm_plan.specs.Row.{HaveShares, Row, change_at}
use Rattle.vm_plan.proofs.KeepLemmas.{rebalancing_applies}
use Rattle.vm_plan.proofs.ListLemmas.{change-have_shares, grant_list-meets, revocation_list-meets}
use Rattle.vm_plan.proofs.Places.{grants_apply, revocation_applies}
use Rattle.vm_plan.proofs.RebalanceLemmas.{rebalancing_list-meets}
use Rattle.vm_samples.specs.Policies.{PolicyView, IsPolicy}
use Rattle.vm_samples.specs.Samples.{DomainView}
use Rattle.vm_steer.specs.declared.fate.LeftDomain.{LeftDomain}
use Rattle.vm_steer.specs.declared.outcome.Outcome.{Outcome}
use Rattle.vm_steer.specs.Deciding.{by_position, course_of, free_of, given_of, grants_in, most_moved, outcome_at, outcomes_of, rebalances_in, revocations_in, target_at, tax_of, thresholds_in, wanted_in, Course}
use Rattle.vm_steer.specs.Entries.{ToldView}
use Rattle.vm_steer.specs.Laws.{AreWithin, IsFair, IsOrderedWithin, KeepsBounds, NoneRaised, RaisesWhatIsThere}
use Rattle.vm_steer.specs.NumbersView.{NumbersView}
use Rattle.vm_steer.specs.Order.{in_order, names_of}
use Rattle.vm_steer.specs.Told.{entries_of, kib_of, next_told, order_of, rest_of, rows_in, sights_of, steered_by, told_by}
use Rattle.vm_steer.proofs.SpanLemmas.{rows_fallen, rows_made, rows_risen, shares_made, sights_span, AreRowsOf, EachSpanned, IsSpanned}
use Rattle.vm_steer.proofs.StepLemmas.{sights_wide}
use Rattle.vm_steer.proofs.TurnLemmas.{can_lower, can_rise, rows-raised}

-- ---- outcomes and rows

front : (f : ℕ → Outcome) (n : ℕ) → by_position f (suc n) ≡ f 0 ∷ by_position (λ k. f (suc k)) n
front f zero = refl
front f (suc n) = ap (λ (l : List Outcome). l ++ f (suc n) ∷ []) (front f n)

-- the targets are those of the rows
abbrev AreTold : List Outcome → List Row → Type 0
AreTold [] [] = ⊤
AreTold [] (row ∷ rows) = ⊥
AreTold (o ∷ outcomes) [] = ⊥
AreTold (o ∷ outcomes) (row ∷ rows) = (o.target ≡ row.target) × AreTold outcomes rows

told_rows : (f : ℕ → Outcome) (rows : List Row) → ((k : ℕ) → k < length rows → (f k).target ≡ target_at rows k) → AreTold (by_position f (length rows)) rows
told_rows f [] same = tt
told_rows f (row ∷ rows) same =
    subst (λ (l : List Outcome). AreTold l (row ∷ rows)) (sym (front f (length rows)))
    (same 0 (omega arith), told_rows (λ k. f (suc k)) rows (λ k h. same (suc k) (omega (arith, h))))

outcomes_told : (course : Course) → AreTold (outcomes_of course) course.rows
unfolding outcomes_of
outcomes_told course = told_rows (outcome_at course) course.rows (λ k h. refl)

-- ---- one order

lowered_so : (policy : PolicyView) (rises : Bool) (n : NumbersView) (t : ℕ) → t < n.measures.held → order_of policy rises n t ≡ Some (kib_of policy.unit n (max t (n.measures.held - policy.rate)))
lowered_so policy rises n t less =
    let e : nat_lt t n.measures.held ≡ true = grind (arith, nat_tests) in
    ap (λ (b : Bool). if b then Some (kib_of policy.unit n (max t (n.measures.held - policy.rate))) else (if nat_lt n.measures.held t then (if rises then Some (kib_of policy.unit n t) else None) else None)) e

raised_so : (policy : PolicyView) (rises : Bool) (n : NumbersView) (t : ℕ) → n.measures.held < t → order_of policy rises n t ≡ (if rises then Some (kib_of policy.unit n t) else None)
raised_so policy rises n t more =
    let e : nat_lt t n.measures.held ≡ false = grind (arith, nat_tests) in
    let f : nat_lt n.measures.held t ≡ true = grind (arith, nat_tests) in
    λ i. if e i then Some (kib_of policy.unit n (max t (n.measures.held - policy.rate))) else (if f i then (if rises then Some (kib_of policy.unit n t) else None) else None)

kept_so : (policy : PolicyView) (rises : Bool) (n : NumbersView) (t : ℕ) → n.measures.held ≡ t → order_of policy rises n t ≡ None
kept_so policy rises n t same =
    let e : nat_lt t n.measures.held ≡ false = grind (arith, nat_tests) in
    let f : nat_lt n.measures.held t ≡ false = grind (arith, nat_tests) in
    λ i. if e i then Some (kib_of policy.unit n (max t (n.measures.held - policy.rate))) else (if f i then (if rises then Some (kib_of policy.unit n t) else None) else None)

ordered_within : (policy : PolicyView) (rises : Bool) (n : NumbersView) (o : Outcome) → IsSpanned n → n.limits.min ≤ o.target → o.target ≤ n.limits.cap → IsOrderedWithin policy n (steered_by policy rises n o)
unfolding steered_by
ordered_within policy rises n o span above within = record {
  size = span.within_size;
  lowered = λ less. lowered_so policy rises n o.target less;
  lowered_min = omega (arith, above);
  lowered_rate = omega arith;
  raised = λ more. subst (λ (order : Option ℕ). IfSome order (λ kib. kib ≡ kib_of policy.unit n o.target)) (sym (raised_so policy rises n o.target more)) (go rises);
  raised_min = above;
  raised_cap = within;
  kept = λ same. kept_so policy rises n o.target same;
}
  where
    go : (b : Bool) → IfSome (if b then Some (kib_of policy.unit n o.target) else None) (λ kib. kib ≡ kib_of policy.unit n o.target)
    go true = refl
    go false = tt

-- ---- all of them

within_entries : (policy : PolicyView) (rises : Bool) (names : List (List ℕ)) (sights : List (Result NumbersView LeftDomain)) (rows : List Row) (outcomes : List Outcome)
    → length sights ≡ length names → EachSpanned sights → AreRowsOf sights rows → AreTold outcomes rows → AreWithin policy sights (entries_of policy rises names sights outcomes)
within_entries policy rises [] [] rows outcomes all each are told = tt
within_entries policy rises [] (sight ∷ sights) rows outcomes all each are told = absurd (omega (arith, all))
within_entries policy rises (name ∷ names) [] rows outcomes all each are told = absurd (omega (arith, all))
within_entries policy rises (name ∷ names) (Err left ∷ sights) rows outcomes all each are told = (tt, within_entries policy rises names sights rows outcomes (omega (arith, all)) each.1 are told)
within_entries policy rises (name ∷ names) (Ok n ∷ sights) [] outcomes all each are told = absurd are
within_entries policy rises (name ∷ names) (Ok n ∷ sights) (row ∷ rows) [] all each are told = absurd told
within_entries policy rises (name ∷ names) (Ok n ∷ sights) (row ∷ rows) (o ∷ outcomes) all each are told =
    let one = are.0 in
    let same = told.0 in
    let above : n.limits.min ≤ o.target = omega (arith, one.min, one.above_min, same) in
    let within : o.target ≤ n.limits.cap = omega (arith, one.cap, one.within_cap, same) in
    (ordered_within policy rises n o each.0 above within, within_entries policy rises names sights rows outcomes (omega (arith, all)) each.1 are.1 told.1)

none_raised : (policy : PolicyView) (names : List (List ℕ)) (sights : List (Result NumbersView LeftDomain)) (outcomes : List Outcome) → NoneRaised (entries_of policy false names sights outcomes)
unfolding steered_by
none_raised policy [] sights outcomes = tt
none_raised policy (name ∷ names) [] outcomes = tt
none_raised policy (name ∷ names) (Err left ∷ sights) outcomes = (tt, none_raised policy names sights outcomes)
none_raised policy (name ∷ names) (Ok n ∷ sights) [] = (λ more. raised_so policy false n 0 more, none_raised policy names sights [])
none_raised policy (name ∷ names) (Ok n ∷ sights) (o ∷ outcomes) = (λ more. raised_so policy false n o.target more, none_raised policy names sights outcomes)

-- ---- what is decided

shares_fallen : (rows : List Row) (moves : List ℕ) → HaveShares rows → HaveShares (rows_after rows moves)
shares_fallen rows [] some = some
shares_fallen rows (k ∷ moves) some = shares_fallen (change_at revoked_row rows k) moves (change-have_shares revoked_row (λ row. refl) rows k some)

shares_risen : (pool : Pool) (moves : List ℕ) → HaveShares pool.rows → HaveShares (pool_after pool moves).rows
shares_risen pool [] some = some
shares_risen pool (k ∷ moves) some = shares_risen (granted pool k) moves (change-have_shares granted_row (λ row. refl) pool.rows k some)

-- the rows after all decisions are still those of the domains
course_rows : (policy : PolicyView) (state : State) (rest : ℕ) (sights : List (Result NumbersView LeftDomain)) → EachSpanned sights → AreRowsOf sights (course_of policy state rest (rows_in sights)).rows
unfolding course_of
course_rows policy state rest sights each =
    let rows = rows_in sights in
    let tax = tax_of policy in
    let some = shares_made sights each in
    let revoked = revocations_in policy state rest rows in
    let fallen = rows_after rows revoked in
    let pool : Pool = record { free = free_of policy rest rows; rows = fallen } in
    let granted = grants_in policy state (free_of policy rest rows) fallen in
    let risen = (pool_after pool granted).rows in
    let moved = rebalances_in policy risen in
    let down = can_lower rows revoked (revocation_applies tax (wanted_in policy state rest rows) rows revoked (revocation_list-meets tax (wanted_in policy state rest rows) rows some)) in
    let shared = shares_fallen rows revoked some in
    let up = can_rise pool granted (grants_apply state (thresholds_in policy) tax pool granted (grant_list-meets state (thresholds_in policy) tax pool shared).each_next) in
    let still = shares_risen pool granted shared in
    let last = can_lower risen moved (rebalancing_applies tax risen moved still (rebalancing_list-meets tax (most_moved policy risen) risen still).each_next) in
    let low = rows_fallen sights rows revoked down (rows_made sights each) in
    let high = subst (λ (l : List Row). AreRowsOf sights l) (rows-raised pool granted) (rows_risen sights fallen granted up low) in
    rows_fallen sights risen moved last high

pub bounds : (policy : PolicyView) (last : ToldView) (domains : List DomainView) → IsPolicy policy → KeepsBounds policy last domains
unfolding told_by
bounds policy last domains is =
    let ordered = in_order domains in
    let sights = sights_of policy last.domains ordered in
    let each = sights_span policy (names_of ordered) last.domains ordered is in
    let course = course_of policy (next_told policy last domains).state (rest_of policy.overhead sights) (rows_in sights) in
    within_entries policy _ (names_of ordered) sights course.rows (outcomes_of course) (sights_wide policy last.domains ordered) each (course_rows policy (next_told policy last domains).state (rest_of policy.overhead sights) sights each) (outcomes_told course)

pub fair : (policy : PolicyView) (last : ToldView) (domains : List DomainView) → IsPolicy policy → IsFair policy last domains
unfolding course_of
fair policy last domains is =
    let ordered = in_order domains in
    let sights = sights_of policy last.domains ordered in
    let rows = rows_in sights in
    let tax = tax_of policy in
    let state = (next_told policy last domains).state in
    let rest = rest_of policy.overhead sights in
    let some = shares_made sights (sights_span policy (names_of ordered) last.domains ordered is) in
    let fallen = rows_after rows (revocations_in policy state rest rows) in
    let pool : Pool = record { free = free_of policy rest rows; rows = fallen } in
    let risen = (pool_after pool (grants_in policy state (free_of policy rest rows) fallen)).rows in
    let still = shares_risen pool (grants_in policy state (free_of policy rest rows) fallen) (shares_fallen rows (revocations_in policy state rest rows) some) in record {
      revoked = (revocation_list-meets tax (wanted_in policy state rest rows) rows some).each_least;
      rebalanced = λ i within. ((rebalancing_list-meets tax (most_moved policy risen) risen still).each_next i within).1.least;
    }

pub raises_none : (policy : PolicyView) (last : ToldView) (domains : List DomainView) → RaisesWhatIsThere policy last domains
unfolding told_by
raises_none policy last domains = λ more.
    let sights = sights_of policy last.domains (in_order domains) in
    let given = given_of (rest_of policy.overhead sights) (rows_in sights) in
    let no : nat_le given policy.memory ≡ false = grind (arith, nat_tests) in
    let outcomes = outcomes_of (course_of policy (next_told policy last domains).state (rest_of policy.overhead sights) (rows_in sights)) in
    subst (λ (b : Bool). NoneRaised (entries_of policy b (names_of (in_order domains)) sights outcomes)) (sym no) (none_raised policy (names_of (in_order domains)) sights outcomes)
