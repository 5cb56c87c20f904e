-- What a clause says of a board and its passes.
use Rattle.std.specs.Prelude.{◌≡◌, ◌<◌, ℕ, false, true, List, [], ◌∷◌, ◌++◌, Some, None, nat_lt, slice_get}
use Rattle.std.specs.List.{All}
use Rattle.vm_board.specs.States.{BoardState, PassState}
use Rattle.vm_board.specs.Sums.{total, times, one_if}
use Rattle.vm_board.specs.Pieces.{finished}

-- the pass after it found that no number was left
abbrev pub ended : PassState → PassState
ended p = record { board = p.board; drawn = p.drawn; number = p.number; over = true }

-- the pass after it drew the number
abbrev pub with_number : PassState → ℕ → PassState
with_number p n = record { board = p.board; drawn = p.drawn ++ n ∷ []; number = Some n; over = p.over }

-- the pass after it finished the number in its hand
abbrev pub empty_handed : PassState → PassState
empty_handed p = record { board = p.board; drawn = p.drawn; number = None; over = p.over }

-- each number below the count stands once in the passes' lists together, and no other number does
abbrev pub EachDrawnOnce : ℕ → List PassState → Type 0
EachDrawnOnce count passes = (n : ℕ) → total (λ p. times n p.drawn) passes ≡ one_if (nat_lt n count)

module _ {J : Type 0} where
  abbrev pub IsPassOf : BoardState J → PassState → Type 0
  IsPassOf b p = p.board ≡ b.id

  -- a pass of the board that has no number in its hand
  abbrev pub IsIdle : BoardState J → PassState → Type 0
  IsIdle b p = IsPassOf b p × (p.number ≡ None)

  -- an empty-handed pass that has found that no number is left
  abbrev pub IsOver : BoardState J → PassState → Type 0
  IsOver b p = IsIdle b p × (p.over ≡ true)

  -- a pass that has drawn nothing yet
  abbrev pub IsNew : BoardState J → PassState → Type 0
  IsNew b p = IsIdle b p × (p.drawn ≡ []) × (p.over ≡ false)

  -- a number above those that the pass drew went to it, with the job that was put at that number
  pub record IsDraw (b : BoardState J) (old : PassState) (drawn : ℕ × J) (new : PassState) : Type 0 where
    pub job : slice_get b.jobs drawn.0 ≡ Some drawn.1
    pub above : All (λ k. k < drawn.0) old.drawn
    pub pass : new ≡ with_number old drawn.0

  -- it is the job that was put at this number, with all its pieces done
  abbrev pub IsResult : (J → ℕ) → (ℕ → J → J) → BoardState J → ℕ → J → Type 0
  IsResult pieces piece b n job = (j : J) × (slice_get b.jobs n ≡ Some j) × (job ≡ finished pieces piece j)
