-- The number of a word, digit by digit.
use Rattle.std.proofs.Common.{◌≡◌, ℕ, ◌+◌, ◌-◌, ◌*◌, ◌^◌, ◌<◌, ◌≤◌, ◌⊎◌, inl, inr, ◌&&◌, Bool, true, false, leb, List, [], ◌∷◌, length, take, get_or, Ok, Err, refl, ap, sym, ◌∙◌, arith, rules}
use Rattle.std.proofs.lemmas.Bool.{le-leb, lt-leb, leb-true, and_parts}
use Rattle.std.proofs.lemmas.Int.Digits.{digits_value_more}
use Rattle.std.proofs.lemmas.List.{length-take-le, take_all}
use Rattle.std.proofs.lemmas.List.Folds.{list_all_at, list_all_more}
use Rattle.std.proofs.lemmas.List.Sums.{AllPass-from_list_all}
use Rattle.std.proofs.lemmas.Str.{digit_value_digit}
use Rattle.std.proofs.lemmas.Str.Parse.{IsNumeralModel, numerals_by_value, digits_value_short}
use Rattle.std.specs.Char.{is_ascii_digit}
use Rattle.std.specs.List.{list_all}
use Rattle.std.specs.Str.Parse.{digits_value}
use Rattle.vm_trace.specs.declared.error.TraceError.TheVariants.{Number}
use Rattle.vm_trace.specs.Entering.{IsDecimal}
use Rattle.vm_trace.specs.Spelling.{IsNumeral}
use Rattle.vm_trace.specs.Words.{number_of}

decimal : IsNumeralModel (λ ds. list_all is_ascii_digit ds ≡ true) (digits_value 10)
decimal = numerals_by_value _ (search rules)

and_false : (b : Bool) → (b && false) ≡ false
and_false true = refl
and_false false = refl

-- no digit, or too many
pub number_of-length : (word : List ℕ) → (length word ≡ 0) ⊎ (10 < length word) → number_of word ≡ Err Number
unfolding number_of
number_of-length word wrong = elim wrong [
  | inl none ↦ rw none refl
  | inr many ↦ rw (lt-leb (length word) 10 many, and_false (leb 1 (length word))) refl
]

-- a character that is no digit
pub number_of-no_digit : (word : List ℕ) (i : ℕ) → i < length word → is_ascii_digit (get_or word i 0) ≡ false → number_of word ≡ Err Number
unfolding number_of
number_of-no_digit word i below failed =
    rw (list_all_at is_ascii_digit word i 0 below failed, and_false (leb 1 (length word) && leb (length word) 10)) refl

-- digits alone
pub number_of-digits : (word : List ℕ) → 1 ≤ length word → length word ≤ 10 → list_all is_ascii_digit word ≡ true → number_of word ≡ Ok (digits_value 10 word)
unfolding number_of
number_of-digits word some few digits = rw (le-leb 1 (length word) some, le-leb (length word) 10 few, digits) refl

-- ten digits are below 2 ^ 64, and one more digit of ten is within it
pub number_small : (word : List ℕ) (i : ℕ) → i ≤ length word → length word ≤ 10 → list_all is_ascii_digit (take i word) ≡ true → digits_value 10 (take i word) < 10 ^ 10
number_small word i below few digits =
    digits_value_short decimal (take i word) 10 digits (omega (arith, length-take-le i word below))

pub digits_more : (word : List ℕ) (i : ℕ) → i < length word → list_all is_ascii_digit (take i word) ≡ true → is_ascii_digit (get_or word i 0) ≡ true → list_all is_ascii_digit (take (i + 1) word) ≡ true
digits_more word i below digits one = list_all_more is_ascii_digit word i 0 below ∙ rw (digits, one) refl

pub number_more : (word : List ℕ) (i n : ℕ) → i < length word → n ≡ digits_value 10 (take i word) → is_ascii_digit (get_or word i 0) ≡ true → 10 * n + (get_or word i 0 - 48) ≡ digits_value 10 (take (i + 1) word)
number_more word i n below value one =
    let range = and_parts _ _ one in
    let digit = digit_value_digit (get_or word i 0) (leb-true _ _ range.0, leb-true _ _ range.1) in
    omega (arith, value, digit, digits_value_more 10 word i below)

-- fewer than nine digits are below 10 ^ 8
pub number_tiny : (word : List ℕ) (i : ℕ) → i ≤ length word → i < 9 → list_all is_ascii_digit (take i word) ≡ true → digits_value 10 (take i word) < 10 ^ 8
number_tiny word i below few digits =
    digits_value_short decimal (take i word) 8 digits (omega (arith, length-take-le i word below))

-- a decimal digit is below ten
pub IsDecimal-small : (byte n : ℕ) → IsDecimal byte n → n < 10
IsDecimal-small byte n is =
    let range = and_parts _ _ is.digit in
    let digit = digit_value_digit byte (leb-true _ _ range.0, leb-true _ _ range.1) in
    omega (arith, digit, is.value, leb-true _ _ range.0, leb-true _ _ range.1)

-- a byte less than ten behind `0` is a decimal digit
pub IsDecimal-below_ten : (byte n : ℕ) → 48 ≤ byte → byte ≤ 57 → n ≡ byte - 48 → IsDecimal byte n
IsDecimal-below_ten byte n above below value = record {
  digit = rw (le-leb 48 byte above, le-leb byte 57 below) refl;
  value = omega (arith, value, digit_value_digit byte (above, below));
}

-- one digit, and two
pub IsNumeral-one : (text : List ℕ) (n : ℕ) → 1 ≤ length text → length text < 2 → IsDecimal (get_or text 0 0) n → IsNumeral text n
IsNumeral-one [] n some few ones = absurd (omega arith)
IsNumeral-one (a ∷ []) n some few ones = record {
  some = some;
  short = omega arith;
  digits = AllPass-from_list_all is_ascii_digit (a ∷ []) (rw ones.digit refl);
  value = omega (arith, ones.value);
}
IsNumeral-one (a ∷ b ∷ text) n some few ones = absurd (omega arith)

pub IsNumeral-two : (text : List ℕ) (m n : ℕ) → 2 ≤ length text → length text < 3 → IsDecimal (get_or text 0 0) m → IsDecimal (get_or text 1 0) n
    → IsNumeral text (10 * m + n)
IsNumeral-two [] m n some few tens ones = absurd (omega arith)
IsNumeral-two (a ∷ []) m n some few tens ones = absurd (omega arith)
IsNumeral-two (a ∷ b ∷ []) m n some few tens ones = record {
  some = omega arith;
  short = omega arith;
  digits = AllPass-from_list_all is_ascii_digit (a ∷ b ∷ []) (rw (tens.digit, ones.digit) refl);
  value = omega (arith, tens.value, ones.value);
}
IsNumeral-two (a ∷ b ∷ c ∷ text) m n some few tens ones = absurd (omega arith)

-- all digits of a text
pub IsNumeral-all : (text : List ℕ) (n i : ℕ) → 1 ≤ length text → length text ≤ 8 → length text ≤ i → list_all is_ascii_digit (take i text) ≡ true → n ≡ digits_value 10 (take i text)
    → IsNumeral text n
IsNumeral-all text n i some few ended digits value =
    let all : take i text ≡ text = take_all i text ended in
    record {
      some = some;
      short = omega (arith, few);
      digits = AllPass-from_list_all is_ascii_digit text (ap (list_all is_ascii_digit) (sym all) ∙ digits);
      value = ap (digits_value 10) (sym all) ∙ sym value;
    }
