-- Decimal digits, and the number that they are.
use Rattle.std.proofs.Common.{◌≡◌, ℕ, ◌<◌, ◌≤◌, ◌^◌, ◌&&◌, Bool, true, false, leb, List, [], ◌∷◌, length, Option, Some, None, IfSome, Result, Ok, Err, refl, ap, subst, sym, ◌∙◌, arith, rules}
use Rattle.std.proofs.lemmas.Bool.{le-leb, lt-leb}
use Rattle.std.proofs.lemmas.Str.Parse.{IsNumeralModel, numerals_by_value, digits_value_short, parse_digits}
use Rattle.std.specs.Char.{is_ascii_digit}
use Rattle.std.specs.List.{list_all}
use Rattle.std.specs.Result.{OkIff, result_ok}
use Rattle.std.specs.Str.Parse.{digits_value, ParsesUnsigned}
use Rattle.vm_lists.specs.Numbers.{digits_in}

pub digits_test : IsNumeralModel (λ ds. list_all is_ascii_digit ds ≡ true) (digits_value 10)
digits_test = numerals_by_value _ (search rules)

and_false : (b : Bool) → (b && false) ≡ false
and_false true = refl
and_false false = refl

-- too many bytes, or one that is no digit
pub digits_in-long : (most : ℕ) (word : List ℕ) → most < length word → digits_in most word ≡ None
unfolding digits_in
digits_in-long most word long = rw (lt-leb (length word) most long, and_false (leb 1 (length word))) refl

pub digits_in-no_digit : (most : ℕ) (word : List ℕ) → list_all is_ascii_digit word ≡ false → digits_in most word ≡ None
unfolding digits_in
digits_in-no_digit most word other = rw (other, and_false (leb 1 (length word) && leb (length word) most)) refl

-- digits
pub digits_in-digits : (most : ℕ) (word : List ℕ) → 1 ≤ length word → length word ≤ most → list_all is_ascii_digit word ≡ true → digits_in most word ≡ Some (digits_value 10 word)
unfolding digits_in
digits_in-digits most word some few digits = rw (le-leb 1 (length word) some, le-leb (length word) most few, digits) refl

pub digits_in-none : (most : ℕ) (word : List ℕ) → length word ≡ 0 → digits_in most word ≡ None
unfolding digits_in
digits_in-none most word none = rw none refl

empty_from : (word : List ℕ) → (0 < length word → ⊥) → length word ≡ 0
empty_from [] none = refl
empty_from (c ∷ cs) none = absurd (none (omega arith))

-- what `parse` gives for digits
parsed : {E : Type 0} (most : ℕ) (word : List ℕ) (r : Result ℕ E) → most ≤ 10 → length word ≤ most → list_all is_ascii_digit word ≡ true → OkIff r ((0 < length word) × (digits_value 10 word < 2 ^ 64)) (digits_value 10 word) → result_ok r ≡ digits_in most word
parsed most word (Ok n) ten few digits is = ap Some is.1 ∙ sym (digits_in-digits most word is.0.0 few digits)
parsed most word (Err e) ten few digits is =
    let small : digits_value 10 word < 10 ^ 10 = digits_value_short digits_test word 10 digits (omega arith) in
    sym (digits_in-none most word (empty_from word (λ some. is (some, omega arith))))

pub parse-digits_in : {E : Type 0} (most : ℕ) (word : List ℕ) (r : Result ℕ E) → most ≤ 10 → length word ≤ most → list_all is_ascii_digit word ≡ true → ParsesUnsigned 64 10 word r → result_ok r ≡ digits_in most word
parse-digits_in most word r ten few digits is = parsed most word r ten few digits (parse_digits digits_test 64 word r is digits)

-- ten digits are below 10 ^ 10
pub digits_in-small : (most : ℕ) (word : List ℕ) (o : Option ℕ) → most ≤ 10 → length word ≤ most → list_all is_ascii_digit word ≡ true → o ≡ digits_in most word → IfSome o (λ n. n < 10 ^ 10)
digits_in-small most [] o ten few digits is = subst (λ o. IfSome o (λ n. n < 10 ^ 10)) (sym (is ∙ digits_in-none most [] refl)) tt
digits_in-small most (c ∷ cs) o ten few digits is =
    subst (λ o. IfSome o (λ n. n < 10 ^ 10)) (sym (is ∙ digits_in-digits most (c ∷ cs) (omega arith) few digits))
    (digits_value_short digits_test (c ∷ cs) 10 digits (omega arith))
