-- Numbers in order, and the one in the middle.
use Rattle.std.specs.Prelude.{ℕ, ◌-◌, ◌/◌, List, [], ◌∷◌, if◌then◌else◌, length, nat_le, slice_get, unwrap_or}
use Rattle.vm_drawing.specs.declared.spread.Spread.{Spread}
use Rattle.vm_sweep.specs.declared.median.OverSeeds.{OverSeeds}

-- a number in front of the first that is not below it
abbrev pub placed : ℕ → List ℕ → List ℕ
placed n [] = n ∷ []
placed n (x ∷ xs) = if nat_le n x then n ∷ x ∷ xs else x ∷ placed n xs

-- the same numbers, none below one before it
unfoldable pub in_order : List ℕ → List ℕ
in_order [] = []
in_order (x ∷ xs) = placed x (in_order xs)

-- the number at a place, from 0; where there is none it is 0
abbrev pub number_at : List ℕ → (place : ℕ) → ℕ
number_at xs place = unwrap_or (slice_get xs place) 0

-- of numbers in order the one in the middle, and of an even count the lower of the two
abbrev pub middle : List ℕ → ℕ
middle xs = number_at xs ((length xs - 1) / 2)

-- of numbers in order the least and the greatest
abbrev pub ends : List ℕ → Spread
ends xs = record { least = number_at xs 0; greatest = number_at xs (length xs - 1) }

-- what numbers come to: their median, from the least to the greatest
abbrev pub over_seeds : List ℕ → OverSeeds
over_seeds xs = record { median = middle (in_order xs); spread = ends (in_order xs) }
