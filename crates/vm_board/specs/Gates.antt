-- What threads did at a gate, by the numbers with which they passed.
use Rattle.std.specs.Prelude.{◌≡◌, ◌<◌, ◌≤◌, ⊤, ℕ, List, [], ◌∷◌, length, nat_lt}
use Rattle.std.specs.List.{All}
use Rattle.vm_board.specs.Sums.{total, times, one_if}

-- each number is above those before it
abbrev pub Rises : List ℕ → Type 0
Rises [] = ⊤
Rises (n ∷ ns) = All (λ m. n < m) ns × Rises ns

module _ {Outside : Type 0} (passed : Outside → List ℕ → Type 0) where
  -- A thread passed with these numbers, one after the other
  pub record HasPassed (numbers : List ℕ) : Type 0 where
    pub outside : Outside
    pub passed_with : passed outside numbers

  -- Threads passed, each with rising numbers, and together with each number below the count once
  pub record PassedOnce (workers count : ℕ) : Type 0 where
    -- with which numbers each thread passed
    pub walks : List (List ℕ)
    pub few : length walks ≤ workers
    pub passed_all : All HasPassed walks
    pub rise : All Rises walks
    pub once : (n : ℕ) → total (times n) walks ≡ one_if (nat_lt n count)
