-- The guests of samples: their names differ, and each is steered in a sample.
use Rattle.std.proofs.Common.{◌≡◌, ◌∙◌, ℕ, ◌+◌, ◌≤◌, ◌⊎◌, inl, inr, nat_le, IfSome, Bool, true, false, true≢false, bytes_eq, List, [], ◌∷◌, Option, Some, None, max, option_map, sym, refl, ap, subst, arith, if◌then◌else◌}
use Rattle.std.specs.Prelude.{⊤}
use Rattle.std.specs.List.{AllByRecursion, IsDistinct}
use Rattle.std.proofs.lemmas.Bool.Decides.{nat_tests}
use Rattle.std.proofs.lemmas.Map.Keys.{IsDistinct-cons}
use Rattle.std.proofs.lemmas.Slice.Eq.{bytes_eq-Decides}
use Rattle.vm_samples.proofs.GuestLemmas.{no_names}
use Rattle.vm_steer.specs.declared.fate.Fate.{Fate}
use Rattle.vm_steer.specs.declared.fate.Fate.TheVariants.{Left, Steered}
use Rattle.vm_steer.specs.declared.fate.SteeredDomain.{SteeredDomain}
use Rattle.vm_steer.specs.Entries.{EntryView, names_in}
use Rattle.vm_steer.specs.Names.{is_before, times}
use Rattle.vm_steer.proofs.NameLemmas.{before_differs, before_upto, asymmetric, behind, bytes_same}
use Rattle.vm_log.specs.NamesSeen.{guest_names, is_steered, names_from, with_name, with_names}
use Rattle.vm_log.specs.Seen.{as_steered, greater, greatest, steered_in}
use Rattle.vm_log.proofs.RangeSampleLemmas.{AreSeen, IsInRange, IsNamedOnce, IsSample, IsSeen}

-- ---- in strict order

-- each stands in front of all behind it
abbrev pub AreStrict : List (List ℕ) → Type 0
AreStrict [] = ⊤
AreStrict (n ∷ names) = AllByRecursion (λ m. is_before n m ≡ true) names × AreStrict names

module _ (P : List ℕ → Type 0) where
  -- what is true of each name is so with one more
  pub each-with : (name : List ℕ) (names : List (List ℕ)) → P name → AllByRecursion P names → AllByRecursion P (with_name name names)
  each-with name [] one each = (one, tt)
  each-with name (n ∷ names) one each = go (bytes_eq n name) (is_before n name) (each-with name names one each.1)
    where
      go : (t u : Bool) → AllByRecursion P (with_name name names)
          → AllByRecursion P (if t then n ∷ names else (if u then n ∷ with_name name names else name ∷ n ∷ names))
      go true u later = each
      go false true later = (each.0, later)
      go false false later = (one, each)

before_each : (name n : List ℕ) (names : List (List ℕ)) → is_before name n ≡ true → AllByRecursion (λ m. is_before n m ≡ true) names
    → AllByRecursion (λ m. is_before name m ≡ true) names
before_each name n [] e each = tt
before_each name n (m ∷ names) e each = (before_upto name n m e (asymmetric n m each.0), before_each name n names e each.1)

strict_with : (name : List ℕ) (names : List (List ℕ)) → AreStrict names → AreStrict (with_name name names)
strict_with name [] strict = (tt, tt)
strict_with name (n ∷ names) strict = go (bytes_eq n name) (is_before n name) refl refl (strict_with name names strict.1)
  where
    go : (t u : Bool) → bytes_eq n name ≡ t → is_before n name ≡ u → AreStrict (with_name name names)
        → AreStrict (if t then n ∷ names else (if u then n ∷ with_name name names else name ∷ n ∷ names))
    go true u e f later = strict
    go false true e f later = (each-with (λ m. is_before n m ≡ true) name names f strict.0, later)
    go false false e f later =
        let front : is_before name n ≡ true = behind n name f e in
        ((front, before_each name n names front strict.0), strict)

strict_names : (holds : Fate → Bool) (names : List (List ℕ)) (entries : List EntryView) → AreStrict names → AreStrict (with_names holds names entries)
strict_names holds names [] strict = strict
strict_names holds names (e ∷ entries) strict = strict_names holds (if holds e.fate then with_name e.name names else names) entries (go (holds e.fate))
  where
    go : (t : Bool) → AreStrict (if t then with_name e.name names else names)
    go true = strict_with e.name names strict
    go false = strict

strict_from : (holds : Fate → Bool) (names : List (List ℕ)) (samples : List (List EntryView)) → AreStrict names → AreStrict (names_from holds names samples)
strict_from holds names [] strict = strict
strict_from holds names (sample ∷ samples) strict = strict_from holds (with_names holds names sample) samples (strict_names holds names sample strict)

differ_each : (n : List ℕ) (names : List (List ℕ)) → AllByRecursion (λ m. is_before n m ≡ true) names → AllByRecursion (λ m. bytes_eq n m ≡ false) names
differ_each n [] each = tt
differ_each n (m ∷ names) each = (before_differs n m each.0, differ_each n names each.1)

strict_distinct : (names : List (List ℕ)) → AreStrict names → IsDistinct bytes_eq names
strict_distinct [] strict = no_names
strict_distinct (n ∷ names) strict = IsDistinct-cons bytes_eq n names (differ_each n names strict.0) (strict_distinct names strict.1)

pub guests_distinct : (samples : List (List EntryView)) → IsDistinct bytes_eq (guest_names samples)
guests_distinct samples = strict_distinct (guest_names samples) (strict_from is_steered [] samples tt)

-- ---- who is a guest

-- a domain with this name is steered in a sample
abbrev pub IsSteeredIn : (name : List ℕ) → List EntryView → Type 0
IsSteeredIn name [] = ⊥
IsSteeredIn name (e ∷ entries) = ((e.name ≡ name) × (is_steered e.fate ≡ true)) ⊎ IsSteeredIn name entries

abbrev pub IsSteeredAmong : (name : List ℕ) → (samples : List (List EntryView)) → Type 0
IsSteeredAmong name [] = ⊥
IsSteeredAmong name (sample ∷ samples) = IsSteeredIn name sample ⊎ IsSteeredAmong name samples

module _ (P : List ℕ → Type 0) where
  each-names : (names : List (List ℕ)) (entries : List EntryView) → AllByRecursion P names → ((n : List ℕ) → IsSteeredIn n entries → P n)
      → AllByRecursion P (with_names is_steered names entries)
  each-names names [] each so = each
  each-names names (e ∷ entries) each so = each-names (if is_steered e.fate then with_name e.name names else names) entries (go (is_steered e.fate) refl) (λ n h. so n (inr h))
    where
      go : (t : Bool) → is_steered e.fate ≡ t → AllByRecursion P (if t then with_name e.name names else names)
      go true h = each-with P e.name names (so e.name (inl (refl, h))) each
      go false h = each

  each-from : (names : List (List ℕ)) (samples : List (List EntryView)) → AllByRecursion P names → ((n : List ℕ) → IsSteeredAmong n samples → P n)
      → AllByRecursion P (names_from is_steered names samples)
  each-from names [] each so = each
  each-from names (sample ∷ samples) each so =
      each-from (with_names is_steered names sample) samples (each-names names sample each (λ n h. so n (inl h))) (λ n h. so n (inr h))

-- each guest is steered in one of the samples
pub guests_steered : (samples : List (List EntryView)) → AllByRecursion (λ name. IsSteeredAmong name samples) (guest_names samples)
guests_steered samples = each-from (λ name. IsSteeredAmong name samples) [] samples tt (λ n h. h)

-- ---- and found there by its name

bytes_itself : (name other : List ℕ) → other ≡ name → bytes_eq other name ≡ true
bytes_itself name other same = (bytes_eq-Decides other name).1 same

times_some : (name : List ℕ) (entries : List EntryView) → IsSteeredIn name entries → 1 ≤ times name (names_in entries)
times_some name [] there = absurd there
times_some name (e ∷ entries) (inl here) = let yes_ : bytes_eq e.name name ≡ true = bytes_itself name e.name here.0 in rw yes_ (omega arith)
times_some name (e ∷ entries) (inr later) = let rest = times_some name entries later in omega (arith, rest)

steered_some : (fate : Fate) → is_steered fate ≡ true → (s : SteeredDomain) × (as_steered fate ≡ Some s)
steered_some (Left left) e = absurd (true≢false (sym e))
steered_some (Steered s) e = (s, refl)

found_once : (name : List ℕ) (entries : List EntryView) → IsSteeredIn name entries → times name (names_in entries) ≤ 1
    → (s : SteeredDomain) × (steered_in name entries ≡ Some s)
found_once name [] there once = absurd there
found_once name (e ∷ entries) (inl here) once =
    let yes_ : bytes_eq e.name name ≡ true = bytes_itself name e.name here.0 in
    let some = steered_some e.fate here.1 in
    (some.0, ap (λ (t : Bool). if t then as_steered e.fate else steered_in name entries) yes_ ∙ some.1)
found_once name (e ∷ entries) (inr later) once = go (bytes_eq e.name name) (found_once name entries later) once
  where
    go : (t : Bool) → (times name (names_in entries) ≤ 1 → (s : SteeredDomain) × (steered_in name entries ≡ Some s))
        → (if t then 1 else 0) + times name (names_in entries) ≤ 1 → (s : SteeredDomain) × ((if t then as_steered e.fate else steered_in name entries) ≡ Some s)
    go true found few = let some = times_some name entries later in absurd (omega (arith, few, some))
    go false found few = found (omega (arith, few))

-- ---- its range

named_there : (names : List (List ℕ)) (name : List ℕ) (entries : List EntryView) → AreSeen names entries → IsSteeredIn name entries → IsNamedOnce names name
named_there names name [] seen there = absurd there
named_there names name (e ∷ entries) seen (inl here) = go e.fate seen.0 here.1
  where
    go : (fate : Fate) → IsSeen names e.name fate → is_steered fate ≡ true → IsNamedOnce names name
    go (Left left) h t = absurd (true≢false (sym t))
    go (Steered s) h t = subst (λ (n : List ℕ). IsNamedOnce names n) here.0 h.named
named_there names name (e ∷ entries) seen (inr later) = named_there names name entries seen.1 later

-- what is told of the domain with a name
pub found_range : (names : List (List ℕ)) (name : List ℕ) (entries : List EntryView) → AreSeen names entries → IfSome (steered_in name entries) (IsInRange names name)
found_range names name [] seen = tt
found_range names name (e ∷ entries) seen = go (bytes_eq e.name name) refl e.fate seen.0 (found_range names name entries seen.1)
  where
    go : (t : Bool) → bytes_eq e.name name ≡ t → (fate : Fate) → IsSeen names e.name fate → IfSome (steered_in name entries) (IsInRange names name)
        → IfSome (if t then as_steered fate else steered_in name entries) (IsInRange names name)
    go true e (Left left) h later = tt
    go true same (Steered s) h later = subst (λ (n : List ℕ). IsInRange names n s) (bytes_same e.name name same) h
    go false e fate h later = later

few_times : (n : ℕ) → nat_le 2 n ≡ false → n ≤ 1
few_times n e = grind (arith, nat_tests)

pub found_there : (name : List ℕ) (entries : List EntryView) → IsSample entries → IsSteeredIn name entries → (s : SteeredDomain) × (steered_in name entries ≡ Some s)
found_there name entries seen there =
    let named = named_there (names_in entries) name entries seen there in
    found_once name entries there (few_times (times name (names_in entries)) named.once)

-- ---- over samples

abbrev pub AreSamples : List (List EntryView) → Type 0
AreSamples samples = AllByRecursion IsSample samples

pub guest_named : (name : List ℕ) (samples : List (List EntryView)) → AreSamples samples → IsSteeredAmong name samples → (names : List (List ℕ)) × IsNamedOnce names name
guest_named name [] seen there = absurd there
guest_named name (sample ∷ samples) seen (inl here) = (names_in sample, named_there (names_in sample) name sample seen.0 here)
guest_named name (sample ∷ samples) seen (inr later) = guest_named name samples seen.1 later

greater_left : (x : ℕ) (other : Option ℕ) → (z : ℕ) × (greater (Some x) other ≡ Some z)
greater_left x None = (x, refl)
greater_left x (Some y) = (max x y, refl)

greater_right : (other : Option ℕ) (x : ℕ) → (z : ℕ) × (greater other (Some x) ≡ Some z)
greater_right None x = (x, refl)
greater_right (Some y) x = (max y x, refl)

-- some sample tells of it
pub greatest_some : (number : SteeredDomain → ℕ) (name : List ℕ) (samples : List (List EntryView)) → AreSamples samples → IsSteeredAmong name samples
    → (z : ℕ) × (greatest number name samples ≡ Some z)
greatest_some number name [] seen there = absurd there
greatest_some number name (sample ∷ samples) seen (inl here) =
    let found = found_there name sample seen.0 here in
    let some = greater_left (number found.0) (greatest number name samples) in
    (some.0, ap (λ (o : Option SteeredDomain). greater (option_map number o) (greatest number name samples)) found.1 ∙ some.1)
greatest_some number name (sample ∷ samples) seen (inr later) =
    let rest = greatest_some number name samples seen.1 later in
    let some = greater_right (option_map number (steered_in name sample)) rest.0 in
    (some.0, ap (greater (option_map number (steered_in name sample))) rest.1 ∙ some.1)
