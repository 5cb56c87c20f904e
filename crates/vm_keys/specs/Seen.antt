-- Which of the known keys earlier members have: a flag for each.
use Rattle.std.specs.Prelude.{◌≡◌, ℕ, List, [], ◌∷◌, ◌++◌, Bool, false, length, get_or, Option, Some, bytes_eq}
use Rattle.std.specs.List.{position}
use Rattle.vm_keys.specs.OddKeys.{Odd, is_among, odd_behind}

-- the place of a known key
abbrev pub place_in : List (List ℕ) → List ℕ → Option ℕ
place_in known key = position (λ one. bytes_eq one key) known

-- the flag of each known key says whether it is among the earlier ones
pub record AreSeen (known earlier : List (List ℕ)) (flags : List Bool) : Type 0 where
  pub each : length flags ≡ length known
  pub says : (key : List ℕ) (place : ℕ) → place_in known key ≡ Some place → get_or flags place false ≡ is_among earlier key

-- whatever keys come before, and are seen: what is told of a key behind them, which is seen from then on
abbrev pub IsToldBehind : List (List ℕ) → List ℕ → List Bool → List Bool → Option Odd → Type 0
IsToldBehind known key before after told =
    (earlier : List (List ℕ)) → AreSeen known earlier before → (told ≡ odd_behind known earlier key) × AreSeen known (earlier ++ key ∷ []) after
