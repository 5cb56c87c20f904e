-- The numbers of a line.
use Rattle.std.specs.Prelude.{◌≡◌, ℕ, ◌<◌, ◌≤◌, ◌&&◌, Bool, nat_le, if◌then◌else◌, List, length, take, get_or, Option, Some, None}
use Rattle.std.specs.Char.{digit_value, is_digit}
use Rattle.std.specs.List.{list_all}
use Rattle.std.specs.Str.Parse.{AllDigits, digits_value}

abbrev pub are_digits : ℕ → List ℕ → Bool
are_digits radix word = list_all (λ byte. is_digit byte radix) word

-- 1 to so many digits of this radix, letters in either case
abbrev pub is_numeral : ℕ → ℕ → List ℕ → Bool
is_numeral radix most word = nat_le 1 (length word) && (nat_le (length word) most && are_digits radix word)

-- the number that they write
unfoldable pub numeral_of : ℕ → ℕ → List ℕ → Option ℕ
numeral_of radix most word = if is_numeral radix most word then Some (digits_value radix word) else None

-- The text begins with so many digits, which write the value, and with no more of them unless these are the most.
pub record IsInFront (radix most : ℕ) (text : List ℕ) (value len : ℕ) : Type 0 where
  pub few : len ≤ most
  pub within : len ≤ length text
  pub digits : AllDigits radix (take len text)
  pub value_is : value ≡ digits_value radix (take len text)
  pub ends : len < most → len < length text → radix ≤ digit_value (get_or text len 0)
