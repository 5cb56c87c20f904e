-- The numbers of a list: 1 to 10 decimal digits, and for percent one or two behind a point, which count hundredths.
use Rattle.std.specs.Prelude.{ℕ, ◌+◌, ◌*◌, ◌==◌, ◌&&◌, Bool, nat_le, nat_lt, if◌then◌else◌, List, length, Option, Some, None, option_and_then}
use Rattle.std.specs.List.{list_all, position_or_len, before_first, after_first}
use Rattle.std.specs.Char.{is_ascii_digit}
use Rattle.std.specs.Str.Parse.{digits_value}
use Rattle.vm_lists.specs.declared.bounds.Unit.{Unit as Units}
use Rattle.vm_lists.specs.declared.bounds.Unit.TheVariants.{Whole, Hundredths}

infixl 10 ◌>>=◌
abbrev pub ◌>>=◌ : {A B : Type 0} → Option A → (A → Option B) → Option B
o >>= f = option_and_then f o

-- the number that 1 to so many decimal digits are
unfoldable pub digits_in : ℕ → List ℕ → Option ℕ
digits_in most word =
    if nat_le 1 (length word) && nat_le (length word) most && list_all is_ascii_digit word
    then Some (digits_value 10 word)
    else None

-- the hundredths of one or two digits behind a point
unfoldable pub hundredths_of : List ℕ → Option ℕ
hundredths_of word = do
  value ← digits_in 2 word
  Some (if length word == 1 then 10 * value else value)

abbrev pub is_point : ℕ → Bool
is_point byte = byte == 46

-- whether such a byte stands in the text
abbrev pub has : (ℕ → Bool) → List ℕ → Bool
has test text = nat_lt (position_or_len test text) (length text)

-- the value of a number
unfoldable pub number_of : Units → List ℕ → Option ℕ
number_of Whole word = digits_in 10 word
number_of Hundredths word =
    if has is_point word
    then (do
      percent ← digits_in 10 (before_first is_point word)
      hundredths ← hundredths_of (after_first is_point word)
      Some (100 * percent + hundredths))
    else (do
      percent ← digits_in 10 word
      Some (100 * percent))
