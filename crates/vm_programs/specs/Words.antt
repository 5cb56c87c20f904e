-- The status of words that a program does not take.
use Rattle.std.specs.Prelude.{◌≡◌, ◌⊎◌, ℕ}

-- words that are not taken have status 2; that memory was refused has 3
abbrev pub IsStatusUnless : (AreTaken : Type 0) → ℕ → Type 0
IsStatusUnless AreTaken status = ((status ≡ 2) × (AreTaken → ⊥)) ⊎ (status ≡ 3)
