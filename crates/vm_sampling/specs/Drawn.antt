-- The pages drawn for a period.
use Rattle.std.specs.Prelude.{ℕ, List, Option, Some, None, length}
use Rattle.rand_pcg.specs.Lcg.{Lcg}
use Rattle.vm_sampling.specs.Words.{draws}

-- what a contract sees of the draws
pub record Drawn : Type 0 where
  -- in the order of the draws
  pub pages : List ℕ
  -- the pages of the guest
  pub size : ℕ

-- the pages that are drawn: those of the draws that are due, else those of the draws that were made
abbrev pub pages_drawn : Option Lcg → List ℕ → ℕ → List ℕ
pages_drawn None drawn size = drawn
pages_drawn (Some g) drawn size = draws (length drawn) size g
