-- Which bytes of a string of JSON have an escape, and the escape of a byte by its number.
use Rattle.std.specs.Prelude.{ℕ, ◌/◌, ◌%◌, ◌==◌, ◌||◌, List, [], ◌∷◌, ◌++◌, Bool, nat_lt, codes}
use Rattle.std.specs.Char.{digit_char}

-- a control character, a quote and a backslash
abbrev pub is_escaped : ℕ → Bool
is_escaped byte = nat_lt byte 32 || (byte == 34) || (byte == 92)

abbrev pub by_number : ℕ → List ℕ
by_number byte = codes "\\u00" ++ (digit_char (byte / 16) ∷ digit_char (byte % 16) ∷ [])
