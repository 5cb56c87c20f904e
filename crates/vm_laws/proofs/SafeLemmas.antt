-- Texts in which JSON escapes nothing.
use Rattle.std.proofs.Common.{◌≡◌, ℕ, ◌^◌, ◌<◌, ◌≤◌, ◌==◌, ◌&&◌, Bool, true, false, not, nat_le, nat_lt, List, [], ◌∷◌, ◌++◌, decimal, refl, sym, ap, ap₂, ◌∙◌, arith, lt-ltb, le-leb, ne_eqb}
use Rattle.std.proofs.lemmas.Bool.{and_from, and_parts, eqb-false, leb-true, ltb-true, not-true}
use Rattle.std.proofs.lemmas.Bool.Decides.{nat_tests}
use Rattle.std.proofs.lemmas.Fmt.{decimal_is_IsNumeral}
use Rattle.std.proofs.lemmas.List.Folds.{list_all-append}
use Rattle.std.specs.Char.{digit_value}
use Rattle.std.specs.List.{list_all}
use Rattle.std.specs.Str.Parse.{AllDigits}
use Rattle.json.specs.Print.{escape}
use Rattle.vm_config.specs.Names.{is_name, is_name_byte}
use Rattle.vm_config.specs.Reading.{is_line_byte}
use Rattle.json.proofs.Printed.Strings.{escape_byte_plain}
use Rattle.json.proofs.Printed.Utf8.{are_ascii}

-- a printable character of ASCII, or a space, but no double quote and no backslash
abbrev pub is_safe : ℕ → Bool
is_safe x = nat_le 32 x && nat_lt x 127 && not (x == 34) && not (x == 92)

abbrev pub AreSafe : List ℕ → Type 0
AreSafe xs = list_all is_safe xs ≡ true

pub safe-byte : (x : ℕ) → 32 ≤ x → x < 127 → (x ≡ 34 → ⊥) → (x ≡ 92 → ⊥) → is_safe x ≡ true
safe-byte x low high quote backslash = rw (le-leb 32 x low, lt-ltb x 127 high, ne_eqb x 34 quote, ne_eqb x 92 backslash) refl

pub safe-cons : (x : ℕ) (xs : List ℕ) → is_safe x ≡ true → AreSafe xs → AreSafe (x ∷ xs)
safe-cons x xs one all = and_from (is_safe x) (list_all is_safe xs) one all

pub safe-append : (xs ys : List ℕ) → AreSafe xs → AreSafe ys → AreSafe (xs ++ ys)
safe-append xs ys are these = list_all-append is_safe xs ys ∙ and_from (list_all is_safe xs) (list_all is_safe ys) are these

-- what is true of such a character
record IsPlain (x : ℕ) : Type 0 where
  low : 32 ≤ x
  high : x < 127
  no_quote : x ≡ 34 → ⊥
  no_backslash : x ≡ 92 → ⊥

plain-byte : (x : ℕ) → is_safe x ≡ true → IsPlain x
plain-byte x is =
    let three = and_parts (nat_le 32 x && nat_lt x 127 && not (x == 34)) (not (x == 92)) is in
    let two = and_parts (nat_le 32 x && nat_lt x 127) (not (x == 34)) three.0 in
    let one = and_parts (nat_le 32 x) (nat_lt x 127) two.0 in
    record {
      low = leb-true 32 x one.0;
      high = ltb-true x 127 one.1;
      no_quote = eqb-false x 34 (not-true _ two.1);
      no_backslash = eqb-false x 92 (not-true _ three.1);
    }

-- ---- digits

-- the bytes of decimal digits
pub digit_range : (d : ℕ) → digit_value d < 10 → (48 ≤ d) × (d ≤ 57)
digit_range d h = grind arith

safe-digits : (ds : List ℕ) → AllDigits 10 ds → AreSafe ds
safe-digits [] are = refl
safe-digits (d ∷ ds) are =
    let range = digit_range d are.0 in
    let low = range.0 in let high = range.1 in
    safe-cons d ds (safe-byte d (omega arith) (omega arith) (λ e. omega arith) (λ e. omega arith)) (safe-digits ds are.1)

pub safe-decimal : (n : ℕ) → n < 2 ^ 64 → AreSafe (decimal n)
safe-decimal n small = safe-digits (decimal n) (decimal_is_IsNumeral n small).0.1

-- ---- what JSON makes of them

-- nothing is escaped
pub escape-safe : (xs : List ℕ) → AreSafe xs → escape xs ≡ xs
escape-safe [] are = refl
escape-safe (x ∷ xs) are =
    let parts = and_parts (is_safe x) (list_all is_safe xs) are in
    let plain = plain-byte x parts.0 in
    ap₂ (λ (a b : List ℕ). a ++ b) (escape_byte_plain x plain.no_quote plain.no_backslash plain.low) (escape-safe xs parts.1)

-- ---- ASCII

pub ascii-append : (xs ys : List ℕ) → are_ascii xs ≡ true → are_ascii ys ≡ true → are_ascii (xs ++ ys) ≡ true
ascii-append [] ys are these = these
ascii-append (x ∷ xs) ys are these =
    let parts = and_parts (nat_lt x 128) (are_ascii xs) are in
    and_from (nat_lt x 128) (are_ascii (xs ++ ys)) parts.0 (ascii-append xs ys parts.1 these)

pub ascii-safe : (xs : List ℕ) → AreSafe xs → are_ascii xs ≡ true
ascii-safe [] are = refl
ascii-safe (x ∷ xs) are =
    let parts = and_parts (is_safe x) (list_all is_safe xs) are in
    let high = (plain-byte x parts.0).high in
    and_from (nat_lt x 128) (are_ascii xs) (lt-ltb x 128 (omega arith)) (ascii-safe xs parts.1)

-- ---- names

name-byte-safe : (x : ℕ) → is_name_byte x ≡ true → is_safe x ≡ true
name-byte-safe x is = safe-byte x (at_least x is) (at_most x is) (differs 34 refl) (differs 92 refl)
  where
    differs : (n : ℕ) → is_name_byte n ≡ false → x ≡ n → ⊥
    differs n other same = let never : false ≡ true = sym other ∙ ap is_name_byte (sym same) ∙ is in cc

    at_least : (x : ℕ) → is_name_byte x ≡ true → 32 ≤ x
    at_least x is = grind (arith, nat_tests)

    at_most : (x : ℕ) → is_name_byte x ≡ true → x < 127
    at_most x is = grind (arith, nat_tests)

name-bytes-safe : (xs : List ℕ) → list_all is_name_byte xs ≡ true → AreSafe xs
name-bytes-safe [] are = refl
name-bytes-safe (x ∷ xs) are =
    let parts = and_parts (is_name_byte x) (list_all is_name_byte xs) are in
    safe-cons x xs (name-byte-safe x parts.0) (name-bytes-safe xs parts.1)

pub name-safe : (name : List ℕ) → is_name name ≡ true → AreSafe name
name-safe name is = let parts = and_parts _ (list_all is_name_byte name) is in name-bytes-safe name parts.1

-- ---- command lines

pub line-safe : (xs : List ℕ) → AreSafe xs → list_all is_line_byte xs ≡ true
line-safe [] are = refl
line-safe (x ∷ xs) are =
    let parts = and_parts (is_safe x) (list_all is_safe xs) are in
    let plain = plain-byte x parts.0 in
    let high = plain.high in
    and_from (is_line_byte x) (list_all is_line_byte xs)
    (and_from (nat_le 32 x) (nat_le x 126) (le-leb 32 x plain.low) (le-leb x 126 (omega (arith, high)))) (line-safe xs parts.1)
