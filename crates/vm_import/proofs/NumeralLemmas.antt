-- The values of digits and of numerals.
use Rattle.std.proofs.Common.{◌≡◌, ◌∙◌, map, ℕ, zero, suc, ◌+◌, ◌*◌, ◌^◌, ◌<◌, ◌≤◌, ◌&&◌, inl, inr, Bool, true, false, leb, Some, None, List, [], ◌∷◌, length, take, get_or, refl, ap, sym, arith}
use Rattle.std.proofs.Math.Nat.{pow-le-pow_right}
use Rattle.std.proofs.lemmas.Bool.{cases_lt, le-leb, lt-leb, lt-ltb, le-ltb}
use Rattle.std.proofs.lemmas.Int.Digits.{digits_value_more, digits_value-lt, digits_more}
use Rattle.std.proofs.lemmas.List.{length-take-le, take_all}
use Rattle.std.proofs.lemmas.List.Folds.{list_all_at}
use Rattle.std.proofs.lemmas.List.FromFn.{get_or-map-range_with_len}
use Rattle.std.specs.Char.{digit_value, is_digit}
use Rattle.std.specs.List.{range_with_len}
use Rattle.std.specs.Str.Parse.{AllDigits, digits_value}
use Rattle.vm_import.specs.declared.numerals.TheConstants.{DIGIT_VALUES}
use Rattle.vm_import.specs.Numerals.{are_digits, numeral_of, IsInFront}

values_of_bytes : DIGIT_VALUES ≡ map digit_value (range_with_len 0 256)
values_of_bytes = refl

-- the table has the value of each byte
pub value_in_table : (byte : ℕ) → byte < 256 → get_or DIGIT_VALUES byte 0 ≡ digit_value byte
value_in_table byte small =
    ap (λ values. get_or values byte 0) values_of_bytes ∙ get_or-map-range_with_len digit_value 0 256 byte byte 0 small (omega arith)

-- what so many digits write, with one more, is as small as the most digits allow
pub value_small : (radix most : ℕ) (text : List ℕ) (i value : ℕ) → 2 ≤ radix → radix ^ most ≤ 2 ^ 64 → i < most → i < length text
    → AllDigits radix (take i text) → value ≡ digits_value radix (take i text) → digit_value (get_or text i 0) < radix
    → value * radix + digit_value (get_or text i 0) < 2 ^ 64
value_small radix most text i value some few below inside digits is small =
    let more : AllDigits radix (take (i + 1) text) = digits_more radix text i inside digits small in
    let below_power = digits_value-lt radix (take (i + 1) text) more in
    let power : radix ^ (i + 1) ≤ radix ^ most = pow-le-pow_right {n = radix} (omega arith) {i = i + 1} {j = most} (omega arith) in
    let len : length (take (i + 1) text) ≡ i + 1 = length-take-le (i + 1) text (omega arith) in
    let bound : digits_value radix (take (i + 1) text) < radix ^ (i + 1) = rw len at below_power in
    rw is (omega (arith, digits_value_more radix text i inside, bound, power))

pub are_digits-from : (radix : ℕ) (word : List ℕ) → AllDigits radix word → are_digits radix word ≡ true
are_digits-from radix [] all = refl
are_digits-from radix (byte ∷ word) all = rw (lt-ltb (digit_value byte) radix all.0) (are_digits-from radix word all.1)

-- a word that is all digits, and not too many
pub whole_numeral : (radix most : ℕ) (word : List ℕ) (value len : ℕ) → IsInFront radix most word value len → 1 ≤ len → length word ≤ len
    → numeral_of radix most word ≡ Some value
unfolding numeral_of
whole_numeral radix most word value len front some whole =
    let all : take len word ≡ word = take_all len word whole in
    let digits : are_digits radix word ≡ true = are_digits-from radix word (rw all at front.digits) in
    let within = front.within in
    let few = front.few in
    rw (le-leb 1 (length word) (omega arith), le-leb (length word) most (omega arith), digits) (ap Some (sym (front.value_is ∙ ap (digits_value radix) all)))

and_false : (a b : Bool) → (a && (b && false)) ≡ false
and_false true true = refl
and_false true false = refl
and_false false b = refl

not_all : (radix most : ℕ) (word : List ℕ) (at : ℕ) → at < length word → radix ≤ digit_value (get_or word at 0) → numeral_of radix most word ≡ None
unfolding numeral_of
not_all radix most word at inside big =
    let other : is_digit (get_or word at 0) radix ≡ false = le-ltb (digit_value (get_or word at 0)) radix big in
    rw (list_all_at (λ byte. is_digit byte radix) word at 0 inside other, and_false (leb 1 (length word)) (leb (length word) most)) refl

none_at_all : (radix most : ℕ) (word : List ℕ) → length word ≡ 0 → numeral_of radix most word ≡ None
unfolding numeral_of
none_at_all radix most word none = rw none refl

pub too_many : (radix most : ℕ) (word : List ℕ) → most < length word → numeral_of radix most word ≡ None
unfolding numeral_of
too_many radix most word many = rw (le-leb 1 (length word) (omega arith), lt-leb (length word) most many) refl

-- a word with another byte or too many digits
pub longer_numeral : (radix most : ℕ) (word : List ℕ) (value len : ℕ) → IsInFront radix most word value len → len < length word
    → numeral_of radix most word ≡ None
longer_numeral radix most word value len front inside =
    let few = front.few in
    elim (cases_lt len most) [
      | inl below ↦ not_all radix most word len inside (front.ends below inside)
      | inr full ↦ too_many radix most word (omega arith)
    ]

-- a word that begins with no digit
pub no_numeral : (radix most : ℕ) (word : List ℕ) (value len : ℕ) → IsInFront radix most word value len → len ≡ 0
    → numeral_of radix most word ≡ None
no_numeral radix most word value len front none =
    elim (cases_lt len (length word)) [
      | inl inside ↦ longer_numeral radix most word value len front inside
      | inr whole ↦ none_at_all radix most word (omega arith)
    ]

-- each digit is below the radix
pub digit_below : (radix : ℕ) (word : List ℕ) (i : ℕ) → AllDigits radix word → i < length word → digit_value (get_or word i 0) < radix
digit_below radix [] i all inside = absurd (omega arith)
digit_below radix (byte ∷ word) zero all inside = all.0
digit_below radix (byte ∷ word) (suc i) all inside = digit_below radix word i all.1 (omega arith)

-- the digits in front of a text are a numeral
pub front_numeral : (radix most : ℕ) (text : List ℕ) (value len : ℕ) → IsInFront radix most text value len → 1 ≤ len
    → numeral_of radix most (take len text) ≡ Some value
front_numeral radix most text value len front some =
    let exact : length (take len text) ≡ len = length-take-le len text front.within in
    let same : take len (take len text) ≡ take len text = take_all len (take len text) (omega arith) in
    let whole : IsInFront radix most (take len text) value len = record {
      few = front.few;
      within = omega arith;
      digits = rw same front.digits;
      value_is = rw same front.value_is;
      ends = λ below inside. absurd (omega arith);
    } in
    whole_numeral radix most (take len text) value len whole some (omega arith)
