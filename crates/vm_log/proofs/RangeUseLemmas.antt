-- What a guest used, epoch by epoch: at most its size, and something.
use Rattle.std.proofs.Common.{◌≡◌, ◌∙◌, ℕ, zero, suc, ◌+◌, ◌*◌, ◌<◌, ◌≤◌, ◌⊎◌, inl, inr, All, IfSome, List, [], ◌∷◌, Option, Some, None, drop, length, map, option_map, take, unwrap_or, sym, refl, ap, subst, arith}
use Rattle.std.specs.Prelude.{⊤}
use Rattle.std.specs.Int.{div_ceil}
use Rattle.std.specs.List.{AllByRecursion}
use Rattle.std.proofs.Math.Nat.{lt_of_mul-lt-mul_right}
use Rattle.std.proofs.lemmas.Grind.{div_ceil_times}
use Rattle.std.proofs.lemmas.List.{length-drop, length-map}
use Rattle.std.proofs.lemmas.List.Elements.{All-cons, All-nil}
use Rattle.vm_steer.specs.declared.fate.SteeredDomain.{SteeredDomain}
use Rattle.vm_steer.specs.Entries.{EntryView, names_in}
use Rattle.vm_log.specs.Epochs.{absent_first, cut, epochs_of, unless_last, uses_of, without_end, without_front}
use Rattle.vm_log.specs.Seen.{greater, size_in, steered_in, use_in}
use Rattle.vm_log.proofs.RangeNameLemmas.{AreSamples, IsSteeredAmong, found_range, greatest_some}
use Rattle.vm_log.proofs.RangeSampleLemmas.{IsInRange, IsSample}
use Rattle.vm_log.proofs.SeenLemmas.{unwrap-greater}
use Rattle.vm_log.proofs.TrimLemmas.{front-split}

-- ---- lists

module _ {A : Type 0} (P : A → Type 0) where
  each_take : (n : ℕ) (xs : List A) → AllByRecursion P xs → AllByRecursion P (take n xs)
  each_take zero xs each = tt
  each_take (suc n) [] each = tt
  each_take (suc n) (x ∷ xs) each = (each.0, each_take n xs each.1)

  each_drop : (n : ℕ) (xs : List A) → AllByRecursion P xs → AllByRecursion P (drop n xs)
  each_drop zero xs each = each
  each_drop (suc n) [] each = tt
  each_drop (suc n) (x ∷ xs) each = each_drop n xs each.1

  pub all_each : (xs : List A) → AllByRecursion P xs → All P xs
  all_each [] each = All-nil P
  all_each (x ∷ xs) each = All-cons P x xs each.0 (all_each xs each.1)

-- ---- at most so much

abbrev AreUpTo : (name : List ℕ) → (z : ℕ) → List (List EntryView) → Type 0
AreUpTo name z samples = AllByRecursion (λ sample. IfSome (steered_in name sample) (λ d. d.used ≤ z)) samples

some_more : (o : Option SteeredDomain) (z w : ℕ) → z ≤ w → IfSome o (λ d. d.used ≤ z) → IfSome o (λ d. d.used ≤ w)
some_more None z w le h = tt
some_more (Some d) z w le h = omega (arith, le, h)

upto_more : (name : List ℕ) (z w : ℕ) (samples : List (List EntryView)) → z ≤ w → AreUpTo name z samples → AreUpTo name w samples
upto_more name z w [] le upto = tt
upto_more name z w (sample ∷ samples) le upto = (some_more (steered_in name sample) z w le upto.0, upto_more name z w samples le upto.1)

unwrap_left : (x : ℕ) (o : Option ℕ) → x ≤ unwrap_or (greater (Some x) o) 0
unwrap_left x o = omega (arith, unwrap-greater (Some x) o)

unwrap_right : (a o : Option ℕ) → unwrap_or o 0 ≤ unwrap_or (greater a o) 0
unwrap_right a o = omega (arith, unwrap-greater a o)

-- nothing that is used is above the greatest size
upto_size : (name : List ℕ) (samples : List (List EntryView)) → AreSamples samples → AreUpTo name (unwrap_or (size_in name samples) 0) samples
upto_size name [] seen = tt
upto_size name (sample ∷ samples) seen = (
  go (steered_in name sample) (found_range (names_in sample) name sample seen.0),
  upto_more name (unwrap_or (size_in name samples) 0) (unwrap_or (size_in name (sample ∷ samples)) 0) samples
      (unwrap_right (option_map (λ d. d.size) (steered_in name sample)) (size_in name samples)) (upto_size name samples seen.1),
)
  where
    go : (o : Option SteeredDomain) → IfSome o (IsInRange (names_in sample) name) → IfSome o (λ d. d.used ≤ unwrap_or (greater (option_map (λ d. d.size) o) (size_in name samples)) 0)
    go None h = tt
    go (Some d) h = let used = h.used in let least = unwrap_left d.size (size_in name samples) in omega (arith, used, least)

use_upto : (name : List ℕ) (z : ℕ) (samples : List (List EntryView)) → AreUpTo name z samples → IfSome (use_in name samples) (λ u. u ≤ z)
use_upto name z [] upto = tt
use_upto name z (sample ∷ samples) upto = go (steered_in name sample) (use_in name samples) upto.0 (use_upto name z samples upto.1)
  where
    go : (o : Option SteeredDomain) (r : Option ℕ) → IfSome o (λ d. d.used ≤ z) → IfSome r (λ u. u ≤ z) → IfSome (greater (option_map (λ d. d.used) o) r) (λ u. u ≤ z)
    go None r h later = later
    go (Some d) None h later = h
    go (Some d) (Some u) h later = omega (arith, h, later)

abbrev IsUpTo : (z : ℕ) → Option ℕ → Type 0
IsUpTo z used = IfSome used (λ units. units ≤ z)

uses_upto : (every count : ℕ) (name : List ℕ) (z : ℕ) (samples : List (List EntryView)) → AreUpTo name z samples
    → AllByRecursion (IsUpTo z) (map (use_in name) (cut every count samples))
uses_upto every zero name z samples upto = tt
uses_upto every (suc count) name z samples upto = (
  use_upto name z (take every samples) (each_take (λ sample. IfSome (steered_in name sample) (λ d. d.used ≤ z)) every samples upto),
  uses_upto every count name z (drop every samples) (each_drop (λ sample. IfSome (steered_in name sample) (λ d. d.used ≤ z)) every samples upto),
)

each_front : (P : Option ℕ → Type 0) (uses : List (Option ℕ)) → AllByRecursion P uses → AllByRecursion P (without_front uses)
each_front P [] each = tt
each_front P (None ∷ uses) each = each_front P uses each.1
each_front P (Some use_ ∷ uses) each = each

each_unless : (P : Option ℕ → Type 0) (used : Option ℕ) (uses : List (Option ℕ)) → P used → AllByRecursion P uses → AllByRecursion P (unless_last used uses)
each_unless P None [] one each = tt
each_unless P None (next ∷ uses) one each = (one, each)
each_unless P (Some use_) uses one each = (one, each)

each_end : (P : Option ℕ → Type 0) (uses : List (Option ℕ)) → AllByRecursion P uses → AllByRecursion P (without_end uses)
each_end P [] each = tt
each_end P (used ∷ uses) each = each_unless P used (without_end uses) each.0 (each_end P uses each.1)

-- what is used in each epoch is at most the size
pub few_used : (every : ℕ) (name : List ℕ) (samples : List (List EntryView)) → AreSamples samples
    → All (IsUpTo (unwrap_or (size_in name samples) 0)) (without_end (without_front (uses_of every name samples)))
few_used every name samples seen =
    let z = unwrap_or (size_in name samples) 0 in
    let uses = uses_of every name samples in
    all_each (IsUpTo z) (without_end (without_front uses))
    (each_end (IsUpTo z) (without_front uses) (each_front (IsUpTo z) uses (uses_upto every (div_ceil (length samples) every) name z samples (upto_size name samples seen))))

-- ---- something

abbrev HasUse : List (Option ℕ) → Type 0
HasUse [] = ⊥
HasUse (None ∷ uses) = HasUse uses
HasUse (Some use_ ∷ uses) = ⊤

use_behind : (used : Option ℕ) (uses : List (Option ℕ)) → HasUse uses → HasUse (used ∷ uses)
use_behind None uses has = has
use_behind (Some use_) uses has = tt

steered_split : (n : ℕ) (name : List ℕ) (samples : List (List EntryView)) → IsSteeredAmong name samples → IsSteeredAmong name (take n samples) ⊎ IsSteeredAmong name (drop n samples)
steered_split zero name samples there = inr there
steered_split (suc n) name [] there = absurd there
steered_split (suc n) name (sample ∷ samples) (inl here) = inl (inl here)
steered_split (suc n) name (sample ∷ samples) (inr later) = go (steered_split n name samples later)
  where
    go : IsSteeredAmong name (take n samples) ⊎ IsSteeredAmong name (drop n samples) → IsSteeredAmong name (sample ∷ take n samples) ⊎ IsSteeredAmong name (drop n samples)
    go (inl front) = inl (inr front)
    go (inr back) = inr back

has_use : (every count : ℕ) (name : List ℕ) (samples : List (List EntryView)) → AreSamples samples → length samples ≤ count * every → IsSteeredAmong name samples
    → HasUse (map (use_in name) (cut every count samples))
has_use every zero name [] seen long there = absurd there
has_use every zero name (sample ∷ samples) seen long there = absurd (omega (arith, long))
has_use every (suc count) name samples seen long there =
    let few : length (drop every samples) ≤ count * every = omega (arith, long, length-drop every samples) in
    go (has_use every count name (drop every samples) (each_drop IsSample every samples seen) few) (steered_split every name samples there)
  where
    rest : List (Option ℕ)
    rest = map (use_in name) (cut every count (drop every samples))

    go : (IsSteeredAmong name (drop every samples) → HasUse rest) → IsSteeredAmong name (take every samples) ⊎ IsSteeredAmong name (drop every samples)
        → HasUse (use_in name (take every samples) ∷ rest)
    go later (inl front) =
        let some = greatest_some (λ d. d.used) name (take every samples) (each_take IsSample every samples seen) front in
        subst (λ (o : Option ℕ). HasUse (o ∷ rest)) (sym some.1) tt
    go later (inr back) = use_behind (use_in name (take every samples)) rest (later back)

some_end : (use_ : ℕ) (uses : List (Option ℕ)) → 1 ≤ length (without_end (Some use_ ∷ uses))
some_end use_ uses = omega arith

some_left : (uses : List (Option ℕ)) → HasUse uses → 1 ≤ length (without_end (without_front uses))
some_left [] has = absurd has
some_left (None ∷ uses) has = some_left uses has
some_left (Some use_ ∷ uses) has = some_end use_ uses

-- there is an epoch in which it was there
pub some_epochs : (every : ℕ) (name : List ℕ) (samples : List (List EntryView)) → 1 ≤ every → AreSamples samples → IsSteeredAmong name samples
    → 1 ≤ length (without_end (without_front (uses_of every name samples)))
some_epochs every name samples some seen there =
    let enough = (div_ceil_times (length samples) every some).0 in
    some_left (uses_of every name samples) (has_use every (div_ceil (length samples) every) name samples seen enough there)

-- ---- within the epochs

unless_long : (used : Option ℕ) (uses : List (Option ℕ)) → length (unless_last used uses) ≤ 1 + length uses
unless_long None [] = omega arith
unless_long None (next ∷ uses) = omega arith
unless_long (Some use_) uses = omega arith

end_long : (uses : List (Option ℕ)) → length (without_end uses) ≤ length uses
end_long [] = omega arith
end_long (used ∷ uses) = let e = unless_long used (without_end uses) in let f = end_long uses in omega (arith, e, f)

pub within_epochs : (every : ℕ) (name : List ℕ) (samples : List (List EntryView))
    → absent_first (uses_of every name samples) + length (without_end (without_front (uses_of every name samples))) ≤ length (epochs_of every samples)
within_epochs every name samples =
    let uses = uses_of every name samples in
    omega (arith, length-map (epochs_of every samples) (use_in name), front-split uses, end_long (without_front uses))

length_cut : (every count : ℕ) (samples : List (List EntryView)) → length (cut every count samples) ≡ count
length_cut every zero samples = refl
length_cut every (suc count) samples = ap suc (length_cut every count (drop every samples))

-- without samples there are none
pub no_epochs : (every : ℕ) → 1 ≤ every → length (epochs_of every []) ≡ 0
no_epochs every some =
    let high = (div_ceil_times 0 every some).1 in
    let less : div_ceil 0 every * every < 1 * every = omega (arith, high) in
    let below = lt_of_mul-lt-mul_right every less in
    length_cut every (div_ceil 0 every) [] ∙ (let none : div_ceil 0 every ≡ 0 = omega (arith, below) in none)

-- ---- its size

pub record IsSize (z : ℕ) : Type 0 where
  pub some : 1 ≤ z
  pub few : z ≤ 262144

size_range : (name : List ℕ) (samples : List (List EntryView)) → AreSamples samples → IfSome (size_in name samples) IsSize
size_range name [] seen = tt
size_range name (sample ∷ samples) seen = go (steered_in name sample) (size_in name samples) (found_range (names_in sample) name sample seen.0) (size_range name samples seen.1)
  where
    go : (o : Option SteeredDomain) (r : Option ℕ) → IfSome o (IsInRange (names_in sample) name) → IfSome r IsSize → IfSome (greater (option_map (λ d. d.size) o) r) IsSize
    go None r h later = later
    go (Some d) None h later = record { some = h.some; few = h.few }
    go (Some d) (Some y) h later =
        let a = h.some in let b = h.few in let c = later.some in let e = later.few in
        record { some = omega (arith, a, c); few = omega (arith, b, e) }

pub size_is : (name : List ℕ) (samples : List (List EntryView)) → AreSamples samples → IsSteeredAmong name samples → IsSize (unwrap_or (size_in name samples) 0)
size_is name samples seen there =
    let found = greatest_some (λ d. d.size) name samples seen there in
    let range : IfSome (Some found.0) IsSize = subst (λ (o : Option ℕ). IfSome o IsSize) found.1 (size_range name samples seen) in
    subst (λ (o : Option ℕ). IsSize (unwrap_or o 0)) (sym found.1) range
