-- Each domain's target stays between its minimum and its cap.
use Rattle.std.proofs.Common.{◌≡◌, ℕ, zero, suc, ◌≤◌, nat_le, All, IfOk, map, Bool, true, false, bytes_eq, List, [], ◌∷◌, Option, Some, None, Result, Ok, Err, sym, refl, subst, arith, if◌then◌else◌}
use Rattle.std.specs.Prelude.{⊤}
use Rattle.std.proofs.lemmas.Bool.Decides.{nat_tests}
use Rattle.std.proofs.lemmas.List.Elements.{All-cons, All-head, All-nil, All-tail}
use Rattle.vm_plan.specs.Grants.{granted_row}
use Rattle.vm_plan.specs.Revocation.{IsRevocable, revoked_row, rows_after}
use Rattle.vm_plan.specs.Row.{HaveShares, Row, change_at}
use Rattle.vm_samples.specs.Policies.{GuestPolicyView, PolicyView, IsGuestPolicy, IsPolicy}
use Rattle.vm_samples.specs.Samples.{DomainView}
use Rattle.vm_steer.specs.declared.balloon.Balloon.{Balloon}
use Rattle.vm_steer.specs.declared.fate.LeftDomain.{LeftDomain}
use Rattle.vm_steer.specs.declared.limits.Limits.{Limits}
use Rattle.vm_steer.specs.declared.rules.Rules.{Rules}
use Rattle.vm_steer.specs.declared.why.Why.{Why}
use Rattle.vm_steer.specs.declared.why.Why.TheVariants.{Size}
use Rattle.vm_steer.specs.Entries.{EntryView, remembered_in}
use Rattle.vm_steer.specs.Look.{balloon_in, barred, believed, is_few, limits_believed, limits_of, look_of, measures_of, numbers_of, rules_in, rules_of, sized, unless_barred, weighed}
use Rattle.vm_steer.specs.Numbers.{cap_of, least_of, most_of, size_of, target_of}
use Rattle.vm_steer.specs.NumbersView.{NumbersView, row_of}
use Rattle.vm_steer.specs.Remembered.{RememberedView}
use Rattle.vm_steer.specs.Told.{left_by, rows_in, sight_of}
use Rattle.vm_steer.specs.Turns.{rows_raised, CanLower, CanRise, IsGrantableRow}
use Rattle.vm_steer.proofs.PromiseLemmas.{change_behind}

-- ---- the numbers of a domain

-- what its row and its order rest on
pub record IsSpanned (n : NumbersView) : Type 0 where
  pub shares : 1 ≤ n.shares
  pub above_min : n.limits.min ≤ n.limits.target
  pub within_cap : n.limits.target ≤ n.limits.cap
  pub within_size : n.limits.cap ≤ n.size

record AreSpanned (size : ℕ) (limits : Limits) : Type 0 where
  above_min : limits.min ≤ limits.target
  within_cap : limits.target ≤ limits.cap
  within_size : limits.cap ≤ size

most_small : (size : ℕ) (greatest : Option ℕ) → most_of size greatest ≤ size
most_small size None = omega arith
most_small size (Some most) = omega arith

least_small : (size ballooned most : ℕ) (least : Option ℕ) → 1 ≤ size → most ≤ size → least_of size ballooned most least ≤ size
least_small size ballooned most None some few = omega arith
least_small size ballooned most (Some least) some few = omega arith

target_above : (last : Option RememberedView) (held least cap : ℕ) → least ≤ cap → least ≤ target_of last held least cap
target_above None held least cap le = omega arith
target_above (Some last) held least cap le = omega arith

target_within : (last : Option RememberedView) (held least cap : ℕ) → target_of last held least cap ≤ cap
target_within None held least cap = omega arith
target_within (Some last) held least cap = omega arith

limits_span : (ballooned patience : ℕ) (rules : Rules) (last : Option RememberedView) (size held : ℕ) → 1 ≤ size → AreSpanned size (limits_of ballooned patience rules last size held)
unfolding limits_of
limits_span ballooned patience rules last size held some =
    let most = most_of size rules.max in
    let least = least_of size ballooned most rules.min in
    let few = most_small size rules.max in
    let small = least_small size ballooned most rules.min some few in record {
      above_min = target_above last held least (cap_of most least) (omega arith);
      within_cap = target_within last held least (cap_of most least);
      within_size = omega arith;
    }

believed_span : (patience held size : ℕ) (limits : Limits) → held ≤ size → AreSpanned size limits → AreSpanned size (limits_believed patience held limits)
believed_span patience held size limits few span = go (nat_le patience limits.still)
  where
    go : (b : Bool) → AreSpanned size (if b then believed held limits else limits)
    go true = let cap = span.within_size in record { above_min = omega arith; within_cap = omega arith; within_size = omega (arith, cap, few) }
    go false = span

held_small : (unit cache : ℕ) (last : Option RememberedView) (b : Balloon) (size : ℕ) → (measures_of unit cache last b size).held ≤ size
unfolding measures_of
held_small unit cache last b size = omega arith

numbers_span : (policy : PolicyView) (rules : Rules) (last : Option RememberedView) (b : Balloon) (size : ℕ) → 1 ≤ rules.shares → 1 ≤ size → IsSpanned (numbers_of policy rules last b size)
unfolding numbers_of
numbers_span policy rules last b size shares some =
    let held = (measures_of policy.unit policy.cache last b size).held in
    let span = believed_span policy.patience held size (limits_of policy.most policy.patience rules last size held) (held_small policy.unit policy.cache last b size)
    (limits_span policy.most policy.patience rules last size held some) in
    record { shares = shares; above_min = span.above_min; within_cap = span.within_cap; within_size = span.within_size }

-- ---- by its statistics

rules_shares : (guests : List GuestPolicyView) (name : List ℕ) → All IsGuestPolicy guests → 1 ≤ (rules_of guests name).shares
rules_shares [] name each = omega arith
rules_shares (g ∷ guests) name each = go (bytes_eq g.name name) (rules_shares guests name (All-tail IsGuestPolicy g guests each))
  where
    go : (b : Bool) → 1 ≤ (rules_of guests name).shares → 1 ≤ (if b then rules_in g else rules_of guests name).shares
    go true later = (All-head IsGuestPolicy g guests each).some_shares
    go false later = later

sized_span : (policy : PolicyView) (rules : Rules) (last : Option RememberedView) (b : Balloon) (size : ℕ) → 1 ≤ rules.shares → IfOk (sized policy rules last b size) IsSpanned
sized_span policy rules last b size shares = go (is_few size) refl
  where
    go : (t : Bool) → is_few size ≡ t → IfOk (if t then Ok (numbers_of policy rules last b size) else Err Size) IsSpanned
    go true few = let some : 1 ≤ size = grind (arith, nat_tests) in numbers_span policy rules last b size shares some
    go false few = tt

weighed_span : (policy : PolicyView) (rules : Rules) (last : Option RememberedView) (r : Result Balloon Why) → 1 ≤ rules.shares → IfOk (weighed policy rules last r) IsSpanned
weighed_span policy rules last (Err why) shares = tt
weighed_span policy rules last (Ok b) shares = sized_span policy rules last b (size_of policy.unit b.maximum) shares

unbarred_span : (why : Option Why) (r : Result NumbersView Why) → IfOk r IsSpanned → IfOk (unless_barred why r) IsSpanned
unbarred_span (Some why) r span = tt
unbarred_span None r span = span

look_span : (policy : PolicyView) (names : List (List ℕ)) (last : Option RememberedView) (d : DomainView) → IsPolicy policy → IfOk (look_of policy names last d) IsSpanned
unfolding look_of
look_span policy names last d is =
    let rules = rules_of policy.guests d.name in
    unbarred_span (barred names rules d) (weighed policy rules last (balloon_in d.current d.maximum d.usable d.unused d.swap_in))
    (weighed_span policy rules last (balloon_in d.current d.maximum d.usable d.unused d.swap_in) (rules_shares policy.guests d.name is.guests))

left_span : (held : ℕ) (last : Option RememberedView) (r : Result NumbersView Why) → IfOk r IsSpanned → IfOk (left_by held last r) IsSpanned
left_span held last (Ok n) span = span
left_span held last (Err why) span = tt

pub sight_span : (policy : PolicyView) (names : List (List ℕ)) (last : Option RememberedView) (d : DomainView) → IsPolicy policy → IfOk (sight_of policy names last d) IsSpanned
unfolding sight_of
sight_span policy names last d is = left_span _ last (look_of policy names last d) (look_span policy names last d is)

-- those of a sample
abbrev pub EachSpanned : List (Result NumbersView LeftDomain) → Type 0
EachSpanned [] = ⊤
EachSpanned (sight ∷ sights) = IfOk sight IsSpanned × EachSpanned sights

pub sights_span : (policy : PolicyView) (names : List (List ℕ)) (last : List EntryView) (domains : List DomainView) → IsPolicy policy
    → EachSpanned (map (λ d. sight_of policy names (remembered_in last d.name) d) domains)
sights_span policy names last [] is = tt
sights_span policy names last (d ∷ domains) is = (sight_span policy names (remembered_in last d.name) d is, sights_span policy names last domains is)

-- ---- their rows

-- a row of a domain, with any target between
pub record IsRowOf (n : NumbersView) (row : Row) : Type 0 where
  pub min : row.min ≡ n.limits.min
  pub cap : row.cap ≡ n.limits.cap
  pub above_min : row.min ≤ row.target
  pub within_cap : row.target ≤ row.cap

-- a row for each domain that is steered
abbrev pub AreRowsOf : List (Result NumbersView LeftDomain) → List Row → Type 0
AreRowsOf [] [] = ⊤
AreRowsOf [] (row ∷ rows) = ⊥
AreRowsOf (Err left ∷ sights) rows = AreRowsOf sights rows
AreRowsOf (Ok n ∷ sights) [] = ⊥
AreRowsOf (Ok n ∷ sights) (row ∷ rows) = IsRowOf n row × AreRowsOf sights rows

pub rows_made : (sights : List (Result NumbersView LeftDomain)) → EachSpanned sights → AreRowsOf sights (rows_in sights)
rows_made [] each = tt
rows_made (Err left ∷ sights) each = rows_made sights each.1
rows_made (Ok n ∷ sights) each = (record { min = refl; cap = refl; above_min = each.0.above_min; within_cap = each.0.within_cap }, rows_made sights each.1)

rows_lowered : (sights : List (Result NumbersView LeftDomain)) (rows : List Row) (k : ℕ) → IsRevocable rows k → AreRowsOf sights rows → AreRowsOf sights (change_at revoked_row rows k)
rows_lowered [] [] k can are = absurd can
rows_lowered [] (row ∷ rows) k can are = absurd are
rows_lowered (Err left ∷ sights) rows k can are = rows_lowered sights rows k can are
rows_lowered (Ok n ∷ sights) [] k can are = absurd are
rows_lowered (Ok n ∷ sights) (row ∷ rows) zero can are =
    let one = are.0 in (record { min = one.min; cap = one.cap; above_min = omega (arith, can); within_cap = let within = one.within_cap in omega (arith, within) }, are.1)
rows_lowered (Ok n ∷ sights) (row ∷ rows) (suc k) can are =
    subst (λ (l : List Row). AreRowsOf (Ok n ∷ sights) l) (sym (change_behind revoked_row row rows k)) (are.0, rows_lowered sights rows k can are.1)

row_raised_of : (sights : List (Result NumbersView LeftDomain)) (rows : List Row) (k : ℕ) → IsGrantableRow rows k → AreRowsOf sights rows → AreRowsOf sights (change_at granted_row rows k)
row_raised_of [] [] k can are = absurd can
row_raised_of [] (row ∷ rows) k can are = absurd are
row_raised_of (Err left ∷ sights) rows k can are = row_raised_of sights rows k can are
row_raised_of (Ok n ∷ sights) [] k can are = absurd are
row_raised_of (Ok n ∷ sights) (row ∷ rows) zero can are =
    let one = are.0 in let room = can.1 in (record { min = one.min; cap = one.cap; above_min = let above = one.above_min in omega (arith, above); within_cap = omega (arith, room) }, are.1)
row_raised_of (Ok n ∷ sights) (row ∷ rows) (suc k) can are =
    subst (λ (l : List Row). AreRowsOf (Ok n ∷ sights) l) (sym (change_behind granted_row row rows k)) (are.0, row_raised_of sights rows k can are.1)

pub rows_fallen : (sights : List (Result NumbersView LeftDomain)) (rows : List Row) (moves : List ℕ) → CanLower rows moves → AreRowsOf sights rows → AreRowsOf sights (rows_after rows moves)
rows_fallen sights rows [] can are = are
rows_fallen sights rows (k ∷ moves) can are = rows_fallen sights (change_at revoked_row rows k) moves can.1 (rows_lowered sights rows k can.0 are)

pub rows_risen : (sights : List (Result NumbersView LeftDomain)) (rows : List Row) (moves : List ℕ) → CanRise rows moves → AreRowsOf sights rows → AreRowsOf sights (rows_raised rows moves)
rows_risen sights rows [] can are = are
rows_risen sights rows (k ∷ moves) can are = rows_risen sights (change_at granted_row rows k) moves can.1 (row_raised_of sights rows k can.0 are)

pub shares_made : (sights : List (Result NumbersView LeftDomain)) → EachSpanned sights → HaveShares (rows_in sights)
shares_made [] each = All-nil (λ (row : Row). 1 ≤ row.shares)
shares_made (Err left ∷ sights) each = shares_made sights each.1
shares_made (Ok n ∷ sights) each = All-cons (λ (row : Row). 1 ≤ row.shares) (row_of n) (rows_in sights) each.0.shares (shares_made sights each.1)
