-- The pages of a size: what SizeGrammar has as facts, as functions that compute it.
use Rattle.std.specs.Prelude.{ℕ, ◌*◌, ◌^◌, ◌&&◌, ◌||◌, Bool, nat_lt, nat_le, if◌then◌else◌, List, take, drop, map, codes, bytes_eq, Option, Some, None, option_and_then}
use Rattle.std.specs.List.{prefix_len}
use Rattle.std.specs.Char.{is_ascii_digit, to_ascii_lowercase}
use Rattle.std.specs.Int.{div_ceil}
use Rattle.std.specs.Str.Parse.{digits_value}

-- ---- the same as functions (law_sizes)

infixl 10 ◌>>=◌
abbrev pub ◌>>=◌ : {A B : Type 0} → Option A → (A → Option B) → Option B
o >>= f = option_and_then f o

-- whether a text is this name, in any case; the name is in lower case
abbrev pub is_named : List ℕ → List ℕ → Bool
is_named text name = bytes_eq (map to_ascii_lowercase text) name

-- the bytes of a unit
unfoldable pub unit_of : List ℕ → Option ℕ
unit_of suffix =
    if is_named suffix (codes "") || is_named suffix (codes "k") || is_named suffix (codes "kib") then Some 1024
    else if is_named suffix (codes "b") || is_named suffix (codes "byte") || is_named suffix (codes "bytes") then Some 1
    else if is_named suffix (codes "kb") then Some 1000
    else if is_named suffix (codes "m") || is_named suffix (codes "mib") then Some 1048576
    else if is_named suffix (codes "mb") then Some 1000000
    else if is_named suffix (codes "g") || is_named suffix (codes "gib") then Some 1073741824
    else if is_named suffix (codes "gb") then Some 1000000000
    else None

-- how many digits a text begins with
abbrev pub digits_in_front : List ℕ → ℕ
digits_in_front text = prefix_len is_ascii_digit text

-- the bytes of a size: 1 to 20 digits, followed at once by a unit, below 2 ^ 64
unfoldable pub bytes_of_size : List ℕ → Option ℕ
bytes_of_size text =
    if nat_le 1 (digits_in_front text) && nat_le (digits_in_front text) 20
    then (do
      unit ← unit_of (drop (digits_in_front text) text)
      if nat_lt (digits_value 10 (take (digits_in_front text) text) * unit) (2 ^ 64)
          then Some (digits_value 10 (take (digits_in_front text) text) * unit)
          else None)
    else None

-- rounded up to KiB, and then up to pages of `page` KiB
abbrev pub pages_of_bytes : ℕ → ℕ → ℕ
pages_of_bytes page bytes = div_ceil (div_ceil bytes 1024) page

-- the one number of pages of `page` KiB that is such: IsSize, by vm_commands::law_sizes
unfoldable pub pages_of_size : ℕ → List ℕ → Option ℕ
pages_of_size page text = do
  bytes ← bytes_of_size text
  Some (pages_of_bytes page bytes)
