-- What is shown of a value is read as that value.
use Rattle.std.proofs.Common.{◌≡◌, ℕ, zero, suc, ◌+◌, ◌*◌, ◌/◌, ◌%◌, ◌<◌, ◌≤◌, ◌^◌, ◌==◌, ◌&&◌, not, Bool, true, false, if◌then◌else◌, List, [], ◌∷◌, ◌++◌, length, codes, Some, None, Ok, refl, ap, sym, subst, ◌∙◌, arith}
use Rattle.std.proofs.lemmas.Bool.{eqb-true, le-leb, le-ltb, ne_eqb}
use Rattle.std.proofs.lemmas.Bool.Decides.{nat_tests}
use Rattle.std.proofs.lemmas.Fmt.{decimal_digit, decimal_nonempty, length-decimal-le, digits_decimal, digits_value-decimal}
use Rattle.std.proofs.lemmas.Int.Digits.{digits_value_push}
use Rattle.std.proofs.lemmas.List.{length-append}
use Rattle.std.proofs.lemmas.List.Elements.{All-append}
use Rattle.std.proofs.lemmas.List.Folds.{list_all-append}
use Rattle.std.proofs.lemmas.List.Sums.{AllPass-from_list_all}
use Rattle.std.proofs.lemmas.List.Splits.{slice_split_none}
use Rattle.std.proofs.lemmas.Str.{digit_value_digit}
use Rattle.std.specs.Char.{is_ascii_digit}
use Rattle.std.specs.Fmt.{decimal}
use Rattle.std.specs.List.{All, list_all}
use Rattle.std.specs.Option.{option_map}
use Rattle.std.specs.Str.Parse.{digits_value}
use Rattle.vm_lists.specs.declared.bounds.Unit.{Unit as Units}
use Rattle.vm_lists.specs.declared.bounds.Unit.TheVariants.{Whole, Hundredths}
use Rattle.vm_lists.specs.declared.bounds.Limits.{Limits}
use Rattle.vm_lists.specs.declared.items.Written.{Written}
use Rattle.vm_lists.specs.Items.{begins_with_dots, around_dots, one_of, number_written, written_of, values_of, item_of}
use Rattle.vm_lists.specs.Lists.{is_comma, list_of}
use Rattle.vm_lists.specs.Numbers.{digits_in, hundredths_of, is_point, number_of}
use Rattle.vm_lists.specs.Shown.{shown}
use Rattle.vm_lists.proofs.NumberLaws.{digits_test, digits_in-digits}
use Rattle.vm_lists.proofs.PlaceLaws.{has-none, stands_first}
use Rattle.vm_lists.proofs.RangeLaws.{range_of-same}

-- the text is a number of this value, and has neither a comma nor two points
pub record IsNumberText (unit : Units) (text : List ℕ) (value : ℕ) : Type 0 where
  pub commaless : All (λ b. is_comma b ≡ false) text
  pub dotless : around_dots text ≡ None
  pub number : number_of unit text ≡ Some value

-- the range from a number to itself
abbrev itself : ℕ → ℕ → Written
itself value step = record { from = value; to = value; step = step; to_at = 0; step_at = 0 }

values_of-itself : (limits : Limits) (value step : ℕ) → 0 < step → limits.least ≤ value → value ≤ limits.greatest → values_of limits 0 (itself value step) ≡ Ok (value ∷ [])
unfolding values_of
values_of-itself limits value step some least greatest =
    rw (
      le-leb limits.least value least,
      le-leb value limits.greatest greatest,
      le-ltb value value (omega arith),
      ne_eqb step 0 (λ none. omega arith),
    ) (ap Ok (range_of-same value step some))

one_some : (unit : Units) → 0 < one_of unit
one_some Whole = omega arith
one_some Hundredths = omega arith

written_of-number : (unit : Units) (text : List ℕ) (value : ℕ) → IsNumberText unit text value → written_of unit 0 text ≡ Some (itself value (one_of unit))
unfolding written_of number_written
written_of-number unit text value is = rw (is.dotless, is.number) refl

item_of-number : (limits : Limits) (text : List ℕ) (value : ℕ) → IsNumberText limits.unit text value → limits.least ≤ value → value ≤ limits.greatest → item_of limits 0 text ≡ Ok (value ∷ [])
unfolding item_of
item_of-number limits text value is least greatest =
    rw (written_of-number limits.unit text value is) (values_of-itself limits value (one_of limits.unit) (one_some limits.unit) least greatest)

list_of-number : (limits : Limits) (text : List ℕ) (value : ℕ) → IsNumberText limits.unit text value → limits.least ≤ value → value ≤ limits.greatest → list_of limits text ≡ Ok (value ∷ [])
unfolding list_of
list_of-number limits text value is least greatest =
    rw (slice_split_none is_comma text is.commaless, item_of-number limits text value is least greatest) refl

-- digits have neither a comma nor a point
pub digit_no_comma : (c : ℕ) → is_ascii_digit c ≡ true → is_comma c ≡ false
digit_no_comma c is = grind (arith, nat_tests)

digit_no_point : (c : ℕ) → is_ascii_digit c ≡ true → is_point c ≡ false
digit_no_point c is = grind (arith, nat_tests)

pub commaless : (text : List ℕ) → list_all is_ascii_digit text ≡ true → All (λ b. is_comma b ≡ false) text
commaless text all = λ k d l. digit_no_comma _ (AllPass-from_list_all is_ascii_digit text all k d l)

pub pointless : (text : List ℕ) → list_all is_ascii_digit text ≡ true → All (λ b. is_point b ≡ false) text
pointless text all = λ k d l. digit_no_point _ (AllPass-from_list_all is_ascii_digit text all k d l)

-- a point alone isn't two
pub begins_other : (b : ℕ) (rest : List ℕ) → is_point b ≡ false → begins_with_dots (b ∷ rest) ≡ false
begins_other b [] other = refl
begins_other b (c ∷ rest) other = rw other refl

pub begins_alone : (rest : List ℕ) → 1 ≤ length rest → All (λ b. is_point b ≡ false) rest → begins_with_dots (46 ∷ rest) ≡ false
begins_alone [] some none = absurd (omega arith)
begins_alone (c ∷ rest) some none = none 0 0 (omega arith)

pub around_dots-pointless : (text : List ℕ) → All (λ b. is_point b ≡ false) text → around_dots text ≡ None
around_dots-pointless [] none = refl
around_dots-pointless (b ∷ rest) none =
    rw (begins_other b rest (none 0 0 (omega arith)))
    (ap (option_map (λ parts. (b ∷ parts.0, parts.1))) (around_dots-pointless rest (λ k d l. none (suc k) d (omega arith))))

pub around_dots-point : (front decimals : List ℕ) → All (λ b. is_point b ≡ false) front → 1 ≤ length decimals → All (λ b. is_point b ≡ false) decimals → around_dots (front ++ 46 ∷ decimals) ≡ None
around_dots-point [] decimals none some behind =
    rw (begins_alone decimals some behind) (ap (option_map (λ parts. (46 ∷ parts.0, parts.1))) (around_dots-pointless decimals behind))
around_dots-point (b ∷ front) decimals none some behind =
    rw (begins_other b (front ++ 46 ∷ decimals) (none 0 0 (omega arith)))
    (ap (option_map (λ parts. (b ∷ parts.0, parts.1))) (around_dots-point front decimals (λ k d l. none (suc k) d (omega arith)) some behind))

-- 1 to 10 digits
pub record IsDigits (text : List ℕ) (n : ℕ) : Type 0 where
  pub some : 1 ≤ length text
  pub few : length text ≤ 10
  pub digits : list_all is_ascii_digit text ≡ true
  pub value : digits_value 10 text ≡ n

decimal_digits : (n : ℕ) → n < 2 ^ 32 → IsDigits (decimal n) n
decimal_digits n small = record {
  some = decimal_nonempty n (omega arith);
  few = length-decimal-le 10 n (omega arith) (omega arith) (omega arith);
  digits = digits_decimal digits_test n (omega arith);
  value = digits_value-decimal digits_test n (omega arith);
}

pub digits_read : (most : ℕ) (text : List ℕ) (n : ℕ) → IsDigits text n → length text ≤ most → digits_in most text ≡ Some n
digits_read most text n is few = digits_in-digits most text is.some few is.digits ∙ ap Some is.value

-- digits without a point
pub whole_number : (text : List ℕ) (n : ℕ) → IsDigits text n → number_of Whole text ≡ Some n
unfolding number_of
whole_number text n is = digits_read 10 text n is is.few

pub whole_percent : (text : List ℕ) (n : ℕ) → IsDigits text n → number_of Hundredths text ≡ Some (100 * n)
unfolding number_of
whole_percent text n is =
    let none = has-none is_point text (pointless text is.digits) in
    rw (none, digits_read 10 text n is is.few) refl

-- digits round a point
pub pointed_percent : (front decimals : List ℕ) (n hundredths : ℕ) → IsDigits front n → hundredths_of decimals ≡ Some hundredths → number_of Hundredths (front ++ 46 ∷ decimals) ≡ Some (100 * n + hundredths)
unfolding number_of
pointed_percent front decimals n hundredths is behind =
    let first = stands_first is_point front 46 decimals (pointless front is.digits) refl in
    rw (first.one, first.before, first.after, digits_read 10 front n is is.few, behind) refl

-- one decimal, and two
one_decimal : (t : ℕ) → t < 10 → hundredths_of (decimal t) ≡ Some (10 * t)
unfolding hundredths_of
one_decimal t small =
    let is = decimal_digits t (omega arith) in
    let one : length (decimal t) ≡ 1 = ap length (decimal_digit t small) in
    rw (digits_read 2 (decimal t) t is (omega arith), one) refl

two_digits : (t h : ℕ) → t < 10 → h < 10 → IsDigits (decimal t ++ decimal h) (10 * t + h)
two_digits t h tens ones =
    let is = decimal_digits t (omega arith) in
    let last = decimal_digits h (omega arith) in
    let two : length (decimal t ++ decimal h) ≡ 2 = length-append (decimal t) (decimal h) ∙ (λ i. length (decimal_digit t tens i) + length (decimal_digit h ones i)) in
    let pushed = ap (λ l. digits_value 10 (decimal t ++ l)) (decimal_digit h ones) ∙ digits_value_push 10 (decimal t) (48 + h) in
    let digit = digit_value_digit (48 + h) (omega arith, omega arith) in
    let front = is.value in
    record {
      some = omega arith;
      few = omega arith;
      digits = list_all-append is_ascii_digit (decimal t) (decimal h) ∙ (λ i. is.digits i && last.digits i);
      value = omega (arith, pushed, digit, front);
    }

two_decimals : (t h : ℕ) → t < 10 → h < 10 → hundredths_of (decimal t ++ decimal h) ≡ Some (10 * t + h)
unfolding hundredths_of
two_decimals t h tens ones =
    let two : length (decimal t ++ decimal h) ≡ 2 = length-append (decimal t) (decimal h) ∙ (λ i. length (decimal_digit t tens i) + length (decimal_digit h ones i)) in
    rw (digits_read 2 (decimal t ++ decimal h) (10 * t + h) (two_digits t h tens ones) (omega arith), two) refl

point_commaless : All (λ b. is_comma b ≡ false) (46 ∷ [])
point_commaless zero d l = refl
point_commaless (suc k) d l = absurd (omega arith)

-- percent with decimals, and without
pointed_text : (n hundredths value : ℕ) (decimals : List ℕ) → n < 2 ^ 32 → 1 ≤ length decimals → list_all is_ascii_digit decimals ≡ true → hundredths_of decimals ≡ Some hundredths → 100 * n + hundredths ≡ value → IsNumberText Hundredths (decimal n ++ 46 ∷ decimals) value
pointed_text n hundredths value decimals small some digits read sum =
    let is = decimal_digits n small in
    record {
      commaless = All-append (λ b. is_comma b ≡ false) (decimal n) (46 ∷ decimals) (commaless (decimal n) is.digits) (All-append (λ b. is_comma b ≡ false) (46 ∷ []) decimals point_commaless (commaless decimals digits));
      dotless = around_dots-point (decimal n) decimals (pointless (decimal n) is.digits) some (pointless decimals digits);
      number = pointed_percent (decimal n) decimals n hundredths is read ∙ ap Some sum;
    }

percent_text : (value : ℕ) (b c : Bool) → value < 2 ^ 32 → (value % 10 == 0) ≡ b → (value / 10 % 10 == 0) ≡ c → IsNumberText Hundredths (if not b then decimal (value / 100) ++ (codes "." ++ (decimal (value / 10 % 10) ++ decimal (value % 10))) else if not c then decimal (value / 100) ++ (codes "." ++ decimal (value / 10 % 10)) else decimal (value / 100)) value
percent_text value false c small ones tens =
    let t = value / 10 % 10 in
    let h = value % 10 in
    let is = two_digits t h (omega arith) (omega arith) in
    pointed_text (value / 100) (10 * t + h) value (decimal t ++ decimal h) (omega arith) is.some is.digits (two_decimals t h (omega arith) (omega arith)) (omega arith)
percent_text value true false small ones tens =
    let t = value / 10 % 10 in
    let none = eqb-true (value % 10) 0 ones in
    let is = decimal_digits t (omega arith) in
    pointed_text (value / 100) (10 * t) value (decimal t) (omega arith) is.some is.digits (one_decimal t (omega arith)) (omega arith)
percent_text value true true small ones tens =
    let none = eqb-true (value % 10) 0 ones in
    let no_tens = eqb-true (value / 10 % 10) 0 tens in
    let is = decimal_digits (value / 100) (omega arith) in
    record {
      commaless = commaless (decimal (value / 100)) is.digits;
      dotless = around_dots-pointless (decimal (value / 100)) (pointless (decimal (value / 100)) is.digits);
      number = whole_percent (decimal (value / 100)) (value / 100) is ∙ ap Some (omega arith);
    }

shown_number : (unit : Units) (value : ℕ) → value < 2 ^ 32 → IsNumberText unit (shown unit value) value
unfolding shown
shown_number Whole value small =
    let is = decimal_digits value small in
    record {
      commaless = commaless (decimal value) is.digits;
      dotless = around_dots-pointless (decimal value) (pointless (decimal value) is.digits);
      number = whole_number (decimal value) value is;
    }
shown_number Hundredths value small = percent_text value (value % 10 == 0) (value / 10 % 10 == 0) small refl refl

pub list_of-shown : (limits : Limits) (unit : Units) (value : ℕ) → value < 2 ^ 32 → limits.unit ≡ unit → limits.least ≤ value → value ≤ limits.greatest → list_of limits (shown unit value) ≡ Ok (value ∷ [])
list_of-shown limits unit value small same least greatest =
    list_of-number limits (shown unit value) value (subst (λ u. IsNumberText u (shown unit value) value) (sym same) (shown_number unit value small)) least greatest
