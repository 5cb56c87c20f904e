-- The key and the value of a line, found in the text that the line begins.
use Rattle.std.proofs.Common.{◌≡◌, ◌∙◌, ◌⊎◌, inl, inr, ℕ, ◌+◌, ◌-◌, ◌<◌, ◌≤◌, position, Option, Some, None, not, cond, eqb, List, length, take, drop, refl, sym, ap, arith}
use Rattle.std.proofs.lemmas.Bool.{cases_lt, cond-false, cond-true, eq-eqb, le-leb, le-ltb, ne_eqb}
use Rattle.std.proofs.lemmas.List.{drop-drop, drop-take, length-drop, length-take-le, take-append-drop, take-take}
use Rattle.std.proofs.lemmas.List.Folds.{prefix_len-append}
use Rattle.std.proofs.lemmas.List.Sums.{prefix_len-le-length}
use Rattle.std.specs.List.{position_or_len, prefix_len}
use Rattle.vm_samples.specs.SampleLines.{KeyView, behind_spaces, is_equals, is_space, key_and_value, key_line}
use Rattle.vm_samples.proofs.LineLemmas.{position_is, position_none, position_some}

-- ---- the first `=` of a front

-- where it is in the front it is the first of all
front_place : (n : ℕ) (xs : List ℕ) → n ≤ length xs
    → ((position_or_len is_equals (take n xs) < n) × (position_or_len is_equals xs ≡ position_or_len is_equals (take n xs)))
    ⊎ ((position_or_len is_equals (take n xs) ≡ n) × (n ≤ position_or_len is_equals xs))
front_place n xs within =
    let front = take n xs in
    let rest = drop n xs in
    let size : length front ≡ n = length-take-le n xs within in
    let whole : position_or_len is_equals xs ≡ cond (eqb (position_or_len is_equals front) (length front)) (length front + position_or_len is_equals rest) (position_or_len is_equals front) =
    ap (position_or_len is_equals) (sym (take-append-drop n xs)) ∙ prefix_len-append (λ x. not (is_equals x)) front rest in
    elim (cases_lt (position_or_len is_equals front) (length front)) [
      | inl inside ↦
          inl (
            omega arith,
            whole ∙ cond-false _ _ _ (ne_eqb (position_or_len is_equals front) (length front) (λ same. absurd (omega arith))),
          )
      | inr past ↦
          (let most = prefix_len-le-length (λ x. not (is_equals x)) front in
          let all : position_or_len is_equals front ≡ length front = omega arith in
          let beyond : position_or_len is_equals xs ≡ length front + position_or_len is_equals rest = whole ∙ cond-true _ _ _ (eq-eqb _ _ all) in
          inr (omega arith, omega arith))
    ]

none_in_front : (n : ℕ) (xs : List ℕ) → n ≤ length xs → position_or_len is_equals (take n xs) ≡ n → position is_equals (take n xs) ≡ None
none_in_front n xs within all =
    let size : length (take n xs) ≡ n = length-take-le n xs within in
    cond-false _ _ _ (le-ltb (position_or_len is_equals (take n xs)) (length (take n xs)) (omega arith))

pub there : (n : ℕ) (xs : List ℕ) (end : ℕ) → n ≤ length xs → position is_equals xs ≡ Some end → end < n → position is_equals (take n xs) ≡ Some end
there n xs end within found before =
    let at = position_some is_equals xs end found in
    let size : length (take n xs) ≡ n = length-take-le n xs within in
    elim (front_place n xs within) [
      | inl is ↦ position_is is_equals (take n xs) end (sym is.1 ∙ at.0) (omega arith)
      | inr is ↦ absurd (omega (arith, is.1, at.0))
    ]

pub not_there : (n : ℕ) (xs : List ℕ) (end : ℕ) → n ≤ length xs → position is_equals xs ≡ Some end → n ≤ end → position is_equals (take n xs) ≡ None
not_there n xs end within found behind =
    let at = position_some is_equals xs end found in
    elim (front_place n xs within) [
      | inl is ↦ absurd (omega (arith, is.0, is.1, at.0))
      | inr is ↦ none_in_front n xs within is.0
    ]

pub nowhere : (n : ℕ) (xs : List ℕ) → n ≤ length xs → position is_equals xs ≡ None → position is_equals (take n xs) ≡ None
nowhere n xs within none =
    let all = position_none is_equals xs none in
    elim (front_place n xs within) [
      | inl is ↦ absurd (omega (arith, is.0, is.1, all))
      | inr is ↦ none_in_front n xs within is.0
    ]

-- ---- the line

-- what is behind the spaces of the line
behind : (text : List ℕ) (len spaces : ℕ) → spaces ≤ len → drop spaces (take len text) ≡ take (len - spaces) (drop spaces text)
behind text len spaces few =
    let sum : len ≡ spaces + (len - spaces) = omega arith in
    ap (λ (n : ℕ). drop spaces (take n text)) sum ∙ drop-take spaces (len - spaces) text

key_by : (text : List ℕ) (len spaces : ℕ) → prefix_len is_space (take len text) ≡ spaces → 1 ≤ spaces → spaces ≤ len
    → key_line (take len text) ≡ key_and_value (take (len - spaces) (drop spaces text))
unfolding key_line behind_spaces
key_by text len spaces is some few =
    rw (is, le-leb 1 spaces some, behind text len spaces few) refl

pub no_key : (text : List ℕ) (len spaces : ℕ) → prefix_len is_space (take len text) ≡ spaces → spaces < 1 → None ≡ key_line (take len text)
unfolding key_line behind_spaces
no_key text len spaces is none =
    let zero_is : prefix_len is_space (take len text) ≡ 0 = omega arith in
    rw zero_is refl

pub no_equals : (text : List ℕ) (len spaces : ℕ) → prefix_len is_space (take len text) ≡ spaces → 1 ≤ spaces → spaces ≤ len
    → position is_equals (take (len - spaces) (drop spaces text)) ≡ None → None ≡ key_line (take len text)
unfolding key_and_value
no_equals text len spaces is some few none = sym (key_by text len spaces is some few ∙ rw none refl)

abbrev pub key_some : ℕ → List ℕ → List ℕ → Option KeyView
key_some end text value = Some (record { key = take end text; value = value })

pub key_is : (text : List ℕ) (len spaces end : ℕ) → prefix_len is_space (take len text) ≡ spaces → 1 ≤ spaces → spaces ≤ len → len ≤ length text
    → position is_equals (drop spaces text) ≡ Some end → spaces + end < len
    → key_some end (drop spaces text) (take (len - (spaces + end + 1)) (drop (spaces + end + 1) text)) ≡ key_line (take len text)
unfolding key_and_value
key_is text len spaces end is some few within found before =
    let rest = drop spaces text in
    let front = take (len - spaces) rest in
    let place : position is_equals front ≡ Some end = there (len - spaces) rest end (omega (arith, length-drop spaces text)) found (omega arith) in
    let key : take end front ≡ take end rest = take-take end (len - spaces) rest (omega arith) in
    let sum : len - spaces ≡ end + 1 + (len - (spaces + end + 1)) = omega arith in
    let next : spaces + (end + 1) ≡ spaces + end + 1 = omega arith in
    let value : drop (end + 1) front ≡ take (len - (spaces + end + 1)) (drop (spaces + end + 1) text) =
    ap (λ (n : ℕ). drop (end + 1) (take n rest)) sum ∙ drop-take (end + 1) (len - (spaces + end + 1)) rest
    ∙ ap (take (len - (spaces + end + 1))) (drop-drop (end + 1) spaces text ∙ ap (λ (n : ℕ). drop n text) next) in
    sym
    (key_by text len spaces is some few
    ∙ rw place refl
    ∙ (λ i. Some (record { key = key i; value = value i })))
