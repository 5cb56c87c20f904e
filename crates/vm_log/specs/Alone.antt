-- A domain that is left alone in a sample at least: for private contracts alone.
use Rattle.std.specs.Prelude.{ℕ, List}

-- the most units that it held then, in the epochs that have ended and in all
pub record AloneView : Type 0 where
  pub name : List ℕ
  pub before : ℕ
  pub most : ℕ
