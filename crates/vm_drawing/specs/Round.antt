-- Which numbers are round, and which of them is the least that reaches a value.
use Rattle.std.specs.Prelude.{◌≡◌, ◌⊎◌, ◌*◌, ◌^◌, ◌≤◌, ℕ}

-- a power of ten, or twice or five times as much
pub record IsRound (n : ℕ) : Type 0 where
  pub power : ℕ
  pub multiple : (n ≡ 10 ^ power) ⊎ ((n ≡ 2 * 10 ^ power) ⊎ (n ≡ 5 * 10 ^ power))

-- it is round and reaches the value, and no lesser round number does
pub record IsLeastRound (value n : ℕ) : Type 0 where
  pub round : IsRound n
  pub reaches : value ≤ n
  pub none_less : (m : ℕ) → IsRound m → value ≤ m → n ≤ m
