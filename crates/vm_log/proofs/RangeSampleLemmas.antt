-- What is told of a sample is in range.
use Rattle.std.proofs.Common.{◌≡◌, ℕ, ◌≤◌, nat_le, IfOk, Bool, true, false, not, List, [], ◌∷◌, map, Option, Some, None, Result, Ok, Err, slice_get, sym, refl, subst, arith, if◌then◌else◌}
use Rattle.std.specs.Prelude.{⊤}
use Rattle.std.specs.Char.{is_ascii_digit}
use Rattle.std.specs.List.{list_all}
use Rattle.std.proofs.lemmas.Bool.{and_parts}
use Rattle.std.proofs.lemmas.Bool.Decides.{nat_tests}
use Rattle.vm_samples.specs.Names.{is_name}
use Rattle.vm_samples.specs.Policies.{PolicyView}
use Rattle.vm_samples.specs.Samples.{DomainView}
use Rattle.vm_steer.specs.declared.fate.Fate.{Fate}
use Rattle.vm_steer.specs.declared.fate.Fate.TheVariants.{Left, Steered}
use Rattle.vm_steer.specs.declared.fate.LeftDomain.{LeftDomain}
use Rattle.vm_steer.specs.declared.fate.SteeredDomain.{SteeredDomain}
use Rattle.vm_steer.specs.declared.rules.Rules.{Rules}
use Rattle.vm_steer.specs.declared.why.Why.{Why}
use Rattle.vm_steer.specs.declared.why.Why.TheVariants.{Name, Twice, Policy, NotRunning, Size}
use Rattle.vm_steer.specs.Entries.{EntryView, ToldView, names_in, remembered_in}
use Rattle.vm_steer.specs.Look.{balloon_in, barred, is_few, is_running, is_steerable, look_of, measures_of, numbers_of, rules_of, sized, unless_barred, weighed}
use Rattle.vm_steer.specs.Names.{stands_twice}
use Rattle.vm_steer.specs.Numbers.{size_of}
use Rattle.vm_steer.specs.NumbersView.{NumbersView}
use Rattle.vm_steer.specs.Order.{in_order, names_of}
use Rattle.vm_steer.specs.Remembered.{RememberedView}
use Rattle.vm_steer.specs.Told.{entries_of, fate_of, left_by, next_told, outcomes_behind, sight_of, sights_of, steered_by, told_by, told_in_order}
use Rattle.vm_steer.proofs.EntryLemmas.{names_stay}
use Rattle.vm_steer.proofs.StepLemmas.{ok_more, sights_wide}

-- ---- numbers

pub record AreFewUsed (n : NumbersView) : Type 0 where
  pub some : 1 ≤ n.size
  pub few : n.size ≤ 262144
  pub used : n.measures.used ≤ n.size

used_small : (unit cache : ℕ) (last : Option RememberedView) (b : _) (size : ℕ) → (measures_of unit cache last b size).used ≤ size
unfolding measures_of
used_small unit cache last b size = omega arith

numbers_few : (policy : PolicyView) (rules : Rules) (last : Option RememberedView) (b : _) (size : ℕ) → 1 ≤ size → size ≤ 262144
    → AreFewUsed (numbers_of policy rules last b size)
unfolding numbers_of
numbers_few policy rules last b size some few = record { some = some; few = few; used = used_small policy.unit policy.cache last b size }

sized_few : (policy : PolicyView) (rules : Rules) (last : Option RememberedView) (b : _) (size : ℕ) → IfOk (sized policy rules last b size) AreFewUsed
sized_few policy rules last b size = go (is_few size) refl
  where
    go : (t : Bool) → is_few size ≡ t → IfOk (if t then Ok (numbers_of policy rules last b size) else Err Size) AreFewUsed
    go true e =
        let parts = and_parts (nat_le 1 size) (nat_le size 262144) e in
        let some : 1 ≤ size = (let e = parts.0 in grind (arith, nat_tests)) in
        let few : size ≤ 262144 = (let e = parts.1 in grind (arith, nat_tests)) in
        numbers_few policy rules last b size some few
    go false e = tt

weighed_few : (policy : PolicyView) (rules : Rules) (last : Option RememberedView) (r : Result _ Why) → IfOk (weighed policy rules last r) AreFewUsed
weighed_few policy rules last (Err why) = tt
weighed_few policy rules last (Ok b) = sized_few policy rules last b (size_of policy.unit b.maximum)

-- ---- who isn't barred

pub record IsNamedOnce (names : List (List ℕ)) (name : List ℕ) : Type 0 where
  pub good : is_name name ≡ true
  pub once : stands_twice names name ≡ false

steerable_name : (name : List ℕ) → is_steerable name ≡ true → is_name name ≡ true
unfolding is_steerable
steerable_name name e = (and_parts (is_name name) (not (list_all is_ascii_digit name)) e).0

unbarred : (names : List (List ℕ)) (rules : Rules) (d : DomainView) → barred names rules d ≡ None → IsNamedOnce names d.name
unbarred names rules d e = go (is_steerable d.name) (stands_twice names d.name) refl refl e
  where
    go : (a b : Bool) → is_steerable d.name ≡ a → stands_twice names d.name ≡ b
        → (if not a then Some Name else (if b then Some Twice else (if not rules.steer then Some Policy else (if is_running d.state then None else Some NotRunning)))) ≡ None
        → IsNamedOnce names d.name
    go true false p q e = record { good = steerable_name d.name p; once = q }
    go true true p q e = absurd (cc)
    go false b p q e = absurd (cc)

-- what comes of a domain whose numbers are told
pub record IsLooked (names : List (List ℕ)) (name : List ℕ) (n : NumbersView) : Type 0 where
  pub named : IsNamedOnce names name
  pub numbers : AreFewUsed n

unless_looked : (names : List (List ℕ)) (name : List ℕ) (why : Option Why) (r : Result NumbersView Why) → (why ≡ None → IsNamedOnce names name) → IfOk r AreFewUsed
    → IfOk (unless_barred why r) (IsLooked names name)
unless_looked names name (Some why) r named few = tt
unless_looked names name None r named few = ok_more r AreFewUsed (IsLooked names name) (λ n h. record { named = named refl; numbers = h }) few

look_looked : (policy : PolicyView) (names : List (List ℕ)) (last : Option RememberedView) (d : DomainView) → IfOk (look_of policy names last d) (IsLooked names d.name)
unfolding look_of
look_looked policy names last d =
    let rules = rules_of policy.guests d.name in
    let balloon = balloon_in d.current d.maximum d.usable d.unused d.swap_in in
    unless_looked names d.name (barred names rules d) (weighed policy rules last balloon) (unbarred names rules d) (weighed_few policy rules last balloon)

left_looked : (names : List (List ℕ)) (name : List ℕ) (held : ℕ) (last : Option RememberedView) (r : Result NumbersView Why) → IfOk r (IsLooked names name) → IfOk (left_by held last r) (IsLooked names name)
left_looked names name held last (Ok n) looked = looked
left_looked names name held last (Err why) looked = tt

sight_looked : (policy : PolicyView) (names : List (List ℕ)) (last : Option RememberedView) (d : DomainView) → IfOk (sight_of policy names last d) (IsLooked names d.name)
unfolding sight_of
sight_looked policy names last d = left_looked names d.name _ last (look_of policy names last d) (look_looked policy names last d)

-- ---- entries

-- who is steered has a name that no other of these has, and numbers in range
pub record IsInRange (names : List (List ℕ)) (name : List ℕ) (s : SteeredDomain) : Type 0 where
  pub named : IsNamedOnce names name
  pub some : 1 ≤ s.size
  pub few : s.size ≤ 262144
  pub used : s.used ≤ s.size

abbrev pub IsSeen : (names : List (List ℕ)) → (name : List ℕ) → Fate → Type 0
IsSeen names name (Left left) = ⊤
IsSeen names name (Steered s) = IsInRange names name s

abbrev pub AreSeen : (names : List (List ℕ)) → List EntryView → Type 0
AreSeen names [] = ⊤
AreSeen names (e ∷ entries) = IsSeen names e.name e.fate × AreSeen names entries

fate_seen : (policy : PolicyView) (rises : Bool) (names : List (List ℕ)) (name : List ℕ) (sight : Result NumbersView LeftDomain) (outcome : Option _)
    → IfOk sight (IsLooked names name) → IsSeen names name (fate_of policy rises sight outcome)
unfolding steered_by
fate_seen policy rises names name (Err left) outcome looked = tt
fate_seen policy rises names name (Ok n) outcome looked =
    record { named = looked.named; some = looked.numbers.some; few = looked.numbers.few; used = looked.numbers.used }

entries_seen : (policy : PolicyView) (rises : Bool) (names : List (List ℕ)) (last : List EntryView) (ds : List DomainView) (outcomes : List _)
    → AreSeen names (entries_of policy rises (names_of ds) (map (λ d. sight_of policy names (remembered_in last d.name) d) ds) outcomes)
entries_seen policy rises names last [] outcomes = tt
entries_seen policy rises names last (d ∷ ds) outcomes =
    let sight = sight_of policy names (remembered_in last d.name) d in (
      fate_seen policy rises names d.name sight (slice_get outcomes 0) (sight_looked policy names (remembered_in last d.name) d),
      entries_seen policy rises names last ds (outcomes_behind sight outcomes),
    )

-- ---- samples

-- .. of a sample
abbrev pub IsSample : List EntryView → Type 0
IsSample entries = AreSeen (names_in entries) entries

told_seen : (policy : PolicyView) (last : ToldView) (ordered : List DomainView) → IsSample (told_in_order policy last ordered).domains
unfolding told_by
told_seen policy last ordered =
    let entries = (told_in_order policy last ordered).domains in
    subst (λ (names : List (List ℕ)). AreSeen names entries)
    (sym (names_stay policy _ (names_of ordered) (sights_of policy last.domains ordered) _ (sights_wide policy last.domains ordered)))
    (entries_seen policy _ (names_of ordered) last.domains ordered _)

pub next_seen : (policy : PolicyView) (last : ToldView) (domains : List DomainView) → IsSample (next_told policy last domains).domains
next_seen policy last domains = told_seen policy last (in_order domains)
