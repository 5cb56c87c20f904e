-- The values of a curve.
use Rattle.std.specs.Prelude.{ℕ, List, [], ◌∷◌, max, Option, unwrap_or}

-- the greatest of them, or 0
abbrev pub greatest : List (Option ℕ) → ℕ
greatest [] = 0
greatest (value ∷ values) = max (unwrap_or value 0) (greatest values)
