-- Names in order, byte by byte.
use Rattle.std.specs.Prelude.{ℕ, zero, suc, ◌+◌, ◌≤◌, ◌<◌, ◌≡◌, Bool, false, List, [], ◌∷◌, bytes_eq, length, nat_le, slice_index_or, if◌then◌else◌}
use Rattle.std.specs.Cmp.Lexicographic.{slice_cmp}
use Rattle.std.specs.Ordering.{is_lt, nat_cmp}

-- a name stands in front of another
unfoldable pub is_before : List ℕ → List ℕ → Bool
is_before name other = is_lt (slice_cmp nat_cmp name other)

-- how often a name is among these
abbrev pub times : (name : List ℕ) → (names : List (List ℕ)) → ℕ
times name [] = 0
times name (n ∷ names) = (if bytes_eq n name then 1 else 0) + times name names

abbrev pub stands_twice : (names : List (List ℕ)) → (name : List ℕ) → Bool
stands_twice names name = nat_le 2 (times name names)

-- ---- for private contracts alone

-- none stands in front of an earlier one
pub record AreRising (names : List (List ℕ)) : Type 0 where
  pub rise : (i j : ℕ) → i ≤ j → j < length names → is_before (slice_index_or names j []) (slice_index_or names i []) ≡ false

-- how many stand in front of a name, before the first that doesn't
abbrev pub place_of : List (List ℕ) → (name : List ℕ) → ℕ
place_of [] name = zero
place_of (n ∷ names) name = if is_before n name then suc (place_of names name) else zero

-- whether a name stands at a place
abbrev pub stands_at : List (List ℕ) → (place : ℕ) → (name : List ℕ) → Bool
stands_at [] place name = false
stands_at (n ∷ names) zero name = bytes_eq n name
stands_at (n ∷ names) (suc place) name = stands_at names place name
