-- What stands before and behind the first element that passes a test, in parts of a list.
use Rattle.std.proofs.Common.{◌≡◌, ◌∙◌, ℕ, zero, suc, ◌+◌, ◌<◌, inl, inr, position, Some, None, ltb, Bool, true, false, not, cond, List, [], ◌∷◌, ◌++◌, length, take, drop, refl, sym, ap, arith}
use Rattle.std.proofs.lemmas.Bool.{cases_lt, cond-true, cond-false, eq-eqb, le-ltb, lt-ltb, ne_eqb}
use Rattle.std.proofs.lemmas.List.{drop-append-le, drop-drop, drop_all, drop_at, take-append-le, take_all}
use Rattle.std.proofs.lemmas.List.Folds.{length-prefix_len, prefix_len-append}
use Rattle.std.proofs.lemmas.List.Sums.{prefix_len-le-length}
use Rattle.std.specs.List.{after_first, before_first, position_or_len}

pub first_there : {X : Type 0} (p : X → Bool) (xs ys : List X) → position_or_len p xs < length xs
    → position_or_len p (xs ++ ys) ≡ position_or_len p xs
first_there p xs ys inside =
    prefix_len-append (λ x. not (p x)) xs ys ∙ cond-false _ _ _ (ne_eqb (position_or_len p xs) (length xs) (λ same. absurd (omega arith)))

first_beyond : {X : Type 0} (p : X → Bool) (xs ys : List X) → position_or_len p xs ≡ length xs
    → position_or_len p (xs ++ ys) ≡ length xs + position_or_len p ys
first_beyond p xs ys none =
    prefix_len-append (λ x. not (p x)) xs ys ∙ cond-true _ _ _ (eq-eqb (position_or_len p xs) (length xs) none)

pub before_there : {X : Type 0} (p : X → Bool) (xs ys : List X) → position_or_len p xs < length xs
    → before_first p (xs ++ ys) ≡ before_first p xs
before_there p xs ys inside =
    ap (λ n. take n (xs ++ ys)) (first_there p xs ys inside) ∙ take-append-le (position_or_len p xs) xs ys (omega arith)

pub behind_there : {X : Type 0} (p : X → Bool) (xs ys : List X) → position_or_len p xs < length xs
    → after_first p (xs ++ ys) ≡ after_first p xs ++ ys
behind_there p xs ys inside =
    ap (λ n. drop (n + 1) (xs ++ ys)) (first_there p xs ys inside) ∙ drop-append-le (position_or_len p xs + 1) xs ys (omega arith)

pub behind_beyond : {X : Type 0} (p : X → Bool) (xs ys : List X) → position_or_len p xs ≡ length xs
    → after_first p (xs ++ ys) ≡ after_first p ys
behind_beyond p xs ys none =
    let sum : length xs + position_or_len p ys + 1 ≡ length xs + (position_or_len p ys + 1) = omega arith in
    ap (λ n. drop (n + 1) (xs ++ ys)) (first_beyond p xs ys none)
    ∙ ap (λ n. drop n (xs ++ ys)) sum
    ∙ sym (drop-drop (position_or_len p ys + 1) (length xs) (xs ++ ys))
    ∙ ap (drop (position_or_len p ys + 1)) (drop_at xs ys (length xs) refl)

one_more : (n : ℕ) → 1 + n ≡ suc n
one_more n = omega arith

before_take-step : {X : Type 0} (b : Bool) (x : X) (xs : List X) (m k n : ℕ) → take m (take n xs) ≡ take n (take k xs)
    → take (cond (not b) (1 + m) 0) (x ∷ take n xs) ≡ take (suc n) (take (cond (not b) (1 + k) 0) (x ∷ xs))
before_take-step true x xs m k n same = refl
before_take-step false x xs m k n same = rw (one_more m, one_more k) (ap (λ l. x ∷ l) same)

-- in the front of a list, what stands before it is the front of what stands before it
pub before_take : {X : Type 0} (p : X → Bool) (n : ℕ) (xs : List X) → before_first p (take n xs) ≡ take n (before_first p xs)
before_take p zero xs = refl
before_take p (suc n) [] = refl
before_take p (suc n) (x ∷ xs) = before_take-step (p x) x xs _ _ n (before_take p n xs)

pub length-before : {X : Type 0} (p : X → Bool) (xs : List X) → length (before_first p xs) ≡ position_or_len p xs
length-before p xs = length-prefix_len (λ x. not (p x)) xs

position_none : {X : Type 0} (p : X → Bool) (xs : List X) → position p xs ≡ None → position_or_len p xs ≡ length xs
position_none p xs none =
    elim (cases_lt (position_or_len p xs) (length xs)) [
      | inl inside ↦ absurd (let some = cond-true (ltb (position_or_len p xs) (length xs)) (Some (position_or_len p xs)) None (lt-ltb _ _ inside) in cc)
      | inr whole ↦ omega (arith, prefix_len-le-length (λ x. not (p x)) xs)
    ]

position_some : {X : Type 0} (p : X → Bool) (xs : List X) (i : ℕ) → position p xs ≡ Some i → (position_or_len p xs ≡ i) × (position_or_len p xs < length xs)
position_some p xs i found =
    elim (cases_lt (position_or_len p xs) (length xs)) [
      | inl inside ↦ ((let some = cond-true (ltb (position_or_len p xs) (length xs)) (Some (position_or_len p xs)) None (lt-ltb _ _ inside) in cc), inside)
      | inr whole ↦ absurd (let none = cond-false (ltb (position_or_len p xs) (length xs)) (Some (position_or_len p xs)) None (le-ltb _ _ whole) in cc)
    ]

-- where the first one stands at a place
pub before_found : {X : Type 0} (p : X → Bool) (xs : List X) (i : ℕ) → position p xs ≡ Some i → before_first p xs ≡ take i xs
before_found p xs i found = ap (λ n. take n xs) (position_some p xs i found).0

pub behind_found : {X : Type 0} (p : X → Bool) (xs : List X) (i : ℕ) → position p xs ≡ Some i → after_first p xs ≡ drop (i + 1) xs
behind_found p xs i found = ap (λ n. drop (n + 1) xs) (position_some p xs i found).0

pub inside_found : {X : Type 0} (p : X → Bool) (xs : List X) (i : ℕ) → position p xs ≡ Some i → position_or_len p xs < length xs
inside_found p xs i found = (position_some p xs i found).1

-- where there is none
pub before_none : {X : Type 0} (p : X → Bool) (xs : List X) → position p xs ≡ None → before_first p xs ≡ xs
before_none p xs none = ap (λ n. take n xs) (position_none p xs none) ∙ take_all (length xs) xs (omega arith)

pub behind_none : {X : Type 0} (p : X → Bool) (xs : List X) → position p xs ≡ None → after_first p xs ≡ []
behind_none p xs none = drop_all (position_or_len p xs + 1) xs (omega (arith, position_none p xs none))

pub used_there : {X : Type 0} (p : X → Bool) (xs new : List X) (i : ℕ) → position p xs ≡ Some i → new ≡ drop (i + 1) xs
    → (ys : List X) → after_first p (xs ++ ys) ≡ new ++ ys
used_there p xs new i found is ys =
    behind_there p xs ys (inside_found p xs i found) ∙ ap (λ l. l ++ ys) (behind_found p xs i found ∙ sym is)

pub used_beyond : {X : Type 0} (p : X → Bool) (xs : List X) → position p xs ≡ None
    → (ys : List X) → after_first p (xs ++ ys) ≡ after_first p ys
used_beyond p xs none ys = behind_beyond p xs ys (position_none p xs none)
