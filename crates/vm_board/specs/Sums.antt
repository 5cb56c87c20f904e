-- Sums over a list.
use Rattle.std.specs.Prelude.{ℕ, ◌+◌, Bool, List, [], ◌∷◌, nat_eq, if◌then◌else◌}

abbrev pub total : {X : Type 0} → (X → ℕ) → List X → ℕ
total f [] = 0
total f (x ∷ xs) = f x + total f xs

abbrev pub one_if : Bool → ℕ
one_if b = if b then 1 else 0

-- how often n stands in the list
abbrev pub times : ℕ → List ℕ → ℕ
times n xs = total (λ m. one_if (nat_eq m n)) xs
