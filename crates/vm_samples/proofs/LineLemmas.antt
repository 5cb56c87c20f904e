-- The lines of bytes, from the first one on.
use Rattle.std.proofs.Common.{◌≡◌, ◌∙◌, ℕ, suc, ◌+◌, ◌-◌, ◌<◌, ◌≤◌, inl, inr, position, Option, Some, None, ltb, Bool, true, false, not, cond, List, [], ◌∷◌, length, take, drop, get_or, refl, sym, ap, arith}
use Rattle.std.proofs.lemmas.Bool.{false≢true, cases_lt, cond-true, cond-false, false_from_ne_true, le-ltb, lt-ltb}
use Rattle.std.proofs.lemmas.List.{drop-drop, length-drop, take_rest}
use Rattle.std.proofs.lemmas.List.Quantifiers.{position-Some}
use Rattle.std.proofs.lemmas.List.Sums.{position_or_len_is, prefix_len-le-length}
use Rattle.std.specs.List.{position_or_len}
use Rattle.memchr.specs.Find.{IsFirstByte}
use Rattle.vm_samples.specs.Lines.{is_line_end, lines_of, onto_line}

-- ---- the first place that passes a test

pub position_is : (p : ℕ → Bool) (xs : List ℕ) (i : ℕ) → position_or_len p xs ≡ i → i < length xs → position p xs ≡ Some i
position_is p xs i is inside =
    let less : ltb (position_or_len p xs) (length xs) ≡ true = lt-ltb _ _ (omega arith) in
    cond-true _ _ _ less ∙ ap Some is

pub position_none : (p : ℕ → Bool) (xs : List ℕ) → position p xs ≡ None → position_or_len p xs ≡ length xs
position_none p xs none =
    elim (cases_lt (position_or_len p xs) (length xs)) [
      | inl inside ↦ absurd (let some = cond-true (ltb (position_or_len p xs) (length xs)) (Some (position_or_len p xs)) None (lt-ltb _ _ inside) in cc)
      | inr whole ↦ omega (arith, prefix_len-le-length (λ x. not (p x)) xs)
    ]

pub position_some : (p : ℕ → Bool) (xs : List ℕ) (i : ℕ) → position p xs ≡ Some i → (position_or_len p xs ≡ i) × (i < length xs)
position_some p xs i found =
    elim (cases_lt (position_or_len p xs) (length xs)) [
      | inl inside ↦
          (let some : Some (position_or_len p xs) ≡ Some i = sym (cond-true (ltb (position_or_len p xs) (length xs)) (Some (position_or_len p xs)) None (lt-ltb _ _ inside)) ∙ found in
          let same : position_or_len p xs ≡ i = cc in
          (same, omega arith))
      | inr whole ↦ absurd (let none = cond-false (ltb (position_or_len p xs) (length xs)) (Some (position_or_len p xs)) None (le-ltb _ _ whole) in cc)
    ]

-- what a search gives
pub position_from_first : (p : ℕ → Bool) (xs : List ℕ) (r : Option ℕ) → IsFirstByte p xs r → r ≡ position p xs
position_from_first p xs None none =
    elim (cases_lt (position_or_len p xs) (length xs)) [
      | inl inside ↦
          (let found : position p xs ≡ Some (position_or_len p xs) = position_is p xs (position_or_len p xs) refl inside in
          let at = position-Some p xs (position_or_len p xs) 0 found in
          absurd (none (position_or_len p xs) (omega arith) inside at.1))
      | inr whole ↦ sym (cond-false (ltb (position_or_len p xs) (length xs)) (Some (position_or_len p xs)) None (le-ltb _ _ whole))
    ]
position_from_first p xs (Some i) found =
    let first : position_or_len p xs ≡ i =
    position_or_len_is p xs i 0 (omega arith)
    (λ k below. false_from_ne_true (p (get_or xs k 0)) (λ is. found.0.before k (omega arith) below is))
    (λ inside. found.1) in
    sym (position_is p xs i first found.0.high)

-- ---- lines

one_more : (n : ℕ) → 1 + n ≡ suc n
one_more n = omega arith

first-step : (t : Bool) (byte : ℕ) (bytes : List ℕ) (m : ℕ) → (t ≡ false → onto_line byte (lines_of bytes) ≡ (byte ∷ take m bytes) ∷ lines_of (drop (m + 1) bytes))
    → cond t ([] ∷ lines_of bytes) (onto_line byte (lines_of bytes))
    ≡ take (cond (not t) (1 + m) 0) (byte ∷ bytes) ∷ lines_of (drop (cond (not t) (1 + m) 0 + 1) (byte ∷ bytes))
first-step true byte bytes m inner = refl
first-step false byte bytes m inner = let two : 1 + m + 1 ≡ suc (m + 1) = omega arith in rw (two, one_more m) (inner refl)

inside-step : (t : Bool) (m n : ℕ) → cond (not t) (1 + m) 0 < suc n → t ≡ false → m < n
inside-step true m n inside is = absurd (false≢true (sym is))
inside-step false m n inside is = omega arith

lines-first : (bytes : List ℕ) → position_or_len is_line_end bytes < length bytes
    → lines_of bytes ≡ take (position_or_len is_line_end bytes) bytes ∷ lines_of (drop (position_or_len is_line_end bytes + 1) bytes)
lines-first [] inside = absurd (omega arith)
lines-first (byte ∷ bytes) inside =
    first-step (is_line_end byte) byte bytes (position_or_len is_line_end bytes)
    (λ is. ap (onto_line byte) (lines-first bytes (inside-step (is_line_end byte) (position_or_len is_line_end bytes) (length bytes) inside is)))

none-step : (t : Bool) (byte : ℕ) (bytes : List ℕ) (m n : ℕ) → cond (not t) (1 + m) 0 ≡ suc n → (m ≡ n → lines_of bytes ≡ [])
    → cond t ([] ∷ lines_of bytes) (onto_line byte (lines_of bytes)) ≡ []
none-step true byte bytes m n none inner = absurd (omega arith)
none-step false byte bytes m n none inner = ap (onto_line byte) (inner (omega arith))

pub lines-none : (bytes : List ℕ) → position_or_len is_line_end bytes ≡ length bytes → lines_of bytes ≡ []
lines-none [] none = refl
lines-none (byte ∷ bytes) none =
    none-step (is_line_end byte) byte bytes (position_or_len is_line_end bytes) (length bytes) none (λ inner. lines-none bytes inner)

-- the first line, and those behind it
pub first_line : (bytes : List ℕ) (n : ℕ) → position is_line_end bytes ≡ Some n → lines_of bytes ≡ take n bytes ∷ lines_of (drop (n + 1) bytes)
first_line bytes n found =
    let place = position_some is_line_end bytes n found in
    lines-first bytes (omega (arith, place.0, place.1)) ∙ ap (λ (k : ℕ). take k bytes ∷ lines_of (drop (k + 1) bytes)) place.0

-- where no line ends there is none
pub no_line : (bytes : List ℕ) → position is_line_end bytes ≡ None → lines_of bytes ≡ []
no_line bytes none = lines-none bytes (position_none is_line_end bytes none)

-- what is in front of the first line end behind a place, and the lines behind that
pub line_taken : (bytes : List ℕ) (start len : ℕ) → position is_line_end (take (length bytes - start) (drop start bytes)) ≡ Some len
    → lines_of (drop start bytes) ≡ take len (take (length bytes - start) (drop start bytes)) ∷ lines_of (drop (start + (len + 1)) bytes)
line_taken bytes start len found =
    let text = drop start bytes in
    let there : position is_line_end text ≡ Some len = ap (position is_line_end) (sym (take_rest bytes start)) ∙ found in
    first_line text len there
    ∙ ap (λ l. take len l ∷ lines_of (drop (len + 1) text)) (sym (take_rest bytes start))
    ∙ ap (λ l. take len (take (length bytes - start) (drop start bytes)) ∷ lines_of l) (drop-drop (len + 1) start bytes)

pub none_taken : (bytes : List ℕ) (start : ℕ) → position is_line_end (take (length bytes - start) (drop start bytes)) ≡ None
    → lines_of (drop start bytes) ≡ []
none_taken bytes start none = no_line (drop start bytes) (ap (position is_line_end) (sym (take_rest bytes start)) ∙ none)

pub within_taken : (bytes : List ℕ) (start len : ℕ) → position is_line_end (take (length bytes - start) (drop start bytes)) ≡ Some len
    → start ≤ length bytes → start + (len + 1) ≤ length bytes
within_taken bytes start len found within =
    let text = drop start bytes in
    let there : position is_line_end text ≡ Some len = ap (position is_line_end) (sym (take_rest bytes start)) ∙ found in
    omega (arith, (position_some is_line_end text len there).1, length-drop start bytes)
