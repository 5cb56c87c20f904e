-- The flags of the known keys, behind one more member.
use Rattle.std.proofs.Common.{◌≡◌, ℕ, ◌+◌, ◌<◌, ◌≢◌, List, [], ◌∷◌, ◌++◌, length, get_or, set, replicate, Bool, true, false, not, cond, Some, None, refl, sym, ap, ap₂, ◌∙◌, arith, true≢false}
use Rattle.std.specs.Prelude.{◌||◌, bytes_eq}
use Rattle.std.specs.List.{position_or_len}
use Rattle.std.proofs.Math.ListN.{length-set}
use Rattle.std.proofs.lemmas.List.Folds.{list_any-append}
use Rattle.std.proofs.lemmas.List.Quantifiers.{position-Some}
use Rattle.std.proofs.lemmas.Slice.Eq.{bytes_eq-Decides}
use Rattle.vm_keys.specs.OddKeys.{unknown, twice, is_among, nearest, odd_behind}
use Rattle.vm_keys.specs.Seen.{place_in, AreSeen}
use Rattle.std.proofs.lemmas.Grind.{get_or-set_at}
use Rattle.std.proofs.lemmas.List.{get_or-set_other, get_or-replicate, length-replicate}
use Rattle.vm_keys.proofs.NearLemmas.{Each, none_of_position, some_below}

same_bytes : (xs ys : List ℕ) → bytes_eq xs ys ≡ true → xs ≡ ys
same_bytes xs ys e = (bytes_eq-Decides xs ys).0 e

bytes_same : (xs ys : List ℕ) → xs ≡ ys → bytes_eq xs ys ≡ true
bytes_same xs ys e = (bytes_eq-Decides xs ys).1 e

-- ---- whether a key is known, by its place

none_among : (known : List (List ℕ)) (key : List ℕ) → Each (λ one. bytes_eq one key ≡ false) known → is_among known key ≡ false
none_among [] key none = refl
none_among (one ∷ known) key (here, rest) = ap₂ (λ (a b : Bool). a || b) here (none_among known key rest)

not_among : (known : List (List ℕ)) (key : List ℕ) → place_in known key ≡ None → is_among known key ≡ false
not_among known key none = none_among known key (none_of_position _ known none)

or_true : (b : Bool) → (b || true) ≡ true
or_true true = refl
or_true false = refl

or_false : (b : Bool) → (b || false) ≡ b
or_false true = refl
or_false false = refl

among_at : (one key : List ℕ) (known : List (List ℕ))
    → (position_or_len (λ x. bytes_eq x key) known < length known → is_among known key ≡ true) → (b : Bool) → bytes_eq one key ≡ b
    → cond (not b) (1 + position_or_len (λ x. bytes_eq x key) known) 0 < length (one ∷ known)
    → (bytes_eq one key || is_among known key) ≡ true
among_at one key known rest true is found = ap (λ a. a || is_among known key) is
among_at one key known rest false is found = ap (λ a. bytes_eq one key || a) (rest (omega arith)) ∙ or_true (bytes_eq one key)

among : (known : List (List ℕ)) (key : List ℕ) → position_or_len (λ one. bytes_eq one key) known < length known → is_among known key ≡ true
among [] key found = absurd (omega arith)
among (one ∷ known) key found = among_at one key known (λ later. among known key later) (bytes_eq one key) refl found

is_known : (known : List (List ℕ)) (key : List ℕ) (place : ℕ) → place_in known key ≡ Some place → is_among known key ≡ true
is_known known key place some = among known key (some_below _ (length known) place _ refl some)

-- ---- one more member

-- among those before, or this one
among_more : (earlier : List (List ℕ)) (key other : List ℕ) → is_among (earlier ++ key ∷ []) other ≡ (is_among earlier other || bytes_eq key other)
among_more earlier key other =
    list_any-append (λ one. bytes_eq one other) earlier (key ∷ []) ∙ ap (λ b. is_among earlier other || b) (or_false (bytes_eq key other))

still : (earlier : List (List ℕ)) (key other : List ℕ) → bytes_eq key other ≡ false → is_among (earlier ++ key ∷ []) other ≡ is_among earlier other
still earlier key other differ = among_more earlier key other ∙ ap (λ b. is_among earlier other || b) differ ∙ or_false (is_among earlier other)

now_among : (earlier : List (List ℕ)) (key other : List ℕ) → bytes_eq key other ≡ true → is_among (earlier ++ key ∷ []) other ≡ true
now_among earlier key other same = among_more earlier key other ∙ ap (λ b. is_among earlier other || b) same ∙ or_true (is_among earlier other)

unknown_at : (known earlier : List (List ℕ)) (flags : List Bool) (key : List ℕ) → place_in known key ≡ None → AreSeen known earlier flags
    → (other : List ℕ) (place : ℕ) → place_in known other ≡ Some place → (b : Bool) → bytes_eq key other ≡ b
    → get_or flags place false ≡ is_among (earlier ++ key ∷ []) other
unknown_at known earlier flags key none seen other place some true same =
    let is : key ≡ other = same_bytes key other same in
    let gone : None ≡ Some place = sym none ∙ (ap (place_in known) is ∙ some) in absurd (cc)
unknown_at known earlier flags key none seen other place some false differ =
    seen.says other place some ∙ sym (still earlier key other differ)

-- a key that isn't known changes no flag
pub seen_past_unknown : (known earlier : List (List ℕ)) (flags : List Bool) (key : List ℕ) → place_in known key ≡ None → AreSeen known earlier flags
    → AreSeen known (earlier ++ key ∷ []) flags
seen_past_unknown known earlier flags key none seen = record {
  each = seen.each;
  says = λ (other : List ℕ) (place : ℕ) (some : place_in known other ≡ Some place).
      unknown_at known earlier flags key none seen other place some (bytes_eq key other) refl;
}

-- two known keys at one place are the same
one_place : (known : List (List ℕ)) (key other : List ℕ) (place : ℕ) → place_in known key ≡ Some place → place_in known other ≡ Some place → key ≡ other
one_place known key other place first second =
    let a = position-Some (λ one. bytes_eq one key) known place [] first in
    let b = position-Some (λ one. bytes_eq one other) known place [] second in
    sym (same_bytes (get_or known place []) key a.1) ∙ same_bytes (get_or known place []) other b.1

some_same : (a b : ℕ) → Some a ≡ Some b → a ≡ b
some_same a b e = cc

known_at : (known earlier : List (List ℕ)) (flags : List Bool) (key : List ℕ) (place : ℕ) → place_in known key ≡ Some place
    → AreSeen known earlier flags → place < length flags → (other : List ℕ) (at : ℕ) → place_in known other ≡ Some at
    → (b : Bool) → bytes_eq key other ≡ b → get_or (set flags place true) at false ≡ is_among (earlier ++ key ∷ []) other
known_at known earlier flags key place found seen within other at some true same =
    let is : key ≡ other = same_bytes key other same in
    let here : at ≡ place = some_same at place (sym some ∙ (ap (place_in known) (sym is) ∙ found)) in
    get_or-set_at flags place at true false here within ∙ sym (now_among earlier key other same)
known_at known earlier flags key place found seen within other at some false differ =
    let elsewhere : at ≢ place = λ (e : at ≡ place).
    (let is : key ≡ other = one_place known key other place found (some ∙ ap Some e) in
    true≢false (sym (bytes_same key other is) ∙ differ)) in
    get_or-set_other flags place at true false elsewhere ∙ (seen.says other at some ∙ sym (still earlier key other differ))

-- a known key sets its flag
pub seen_past_known : (known earlier : List (List ℕ)) (flags : List Bool) (key : List ℕ) (place : ℕ) → place_in known key ≡ Some place
    → AreSeen known earlier flags → AreSeen known (earlier ++ key ∷ []) (set flags place true)
seen_past_known known earlier flags key place found seen =
    let a = position-Some (λ one. bytes_eq one key) known place [] found in
    let within : place < length flags = omega (arith, a.0, seen.each) in
    record {
      each = length-set flags place true ∙ seen.each;
      says = λ (other : List ℕ) (at : ℕ) (some : place_in known other ≡ Some at).
          known_at known earlier flags key place found seen within other at some (bytes_eq key other) refl;
    }

-- before the first member
pub seen_none : (known : List (List ℕ)) (n : ℕ) → n ≡ length known → AreSeen known [] (replicate n false)
seen_none known n each = record {
  each = length-replicate n false ∙ each;
  says = λ (key : List ℕ) (place : ℕ) (some : place_in known key ≡ Some place).
      (let a = position-Some (λ one. bytes_eq one key) known place [] some in get_or-replicate n place false false (omega (arith, a.0)));
}

-- ---- what is told of a member

pub told_known : (known earlier : List (List ℕ)) (flags : List Bool) (key : List ℕ) (place : ℕ) → place_in known key ≡ Some place
    → AreSeen known earlier flags → odd_behind known earlier key ≡ cond (get_or flags place false) (Some (twice key)) None
told_known known earlier flags key place found seen =
    ap (λ b. cond b (cond (is_among earlier key) (Some (twice key)) None) (Some (unknown key (nearest known key)))) (is_known known key place found)
    ∙ ap (λ b. cond b (Some (twice key)) None) (sym (seen.says key place found))

pub told_unknown : (known earlier : List (List ℕ)) (key : List ℕ) → place_in known key ≡ None
    → odd_behind known earlier key ≡ Some (unknown key (nearest known key))
told_unknown known earlier key none =
    ap (λ b. cond b (cond (is_among earlier key) (Some (twice key)) None) (Some (unknown key (nearest known key)))) (not_among known key none)
