-- Marks in place of a set of pages: a page is in the set of a period where its mark is the number of that period. The set of the
-- next period is empty at once, without a pass over the pages.
use Rattle.std.specs.Prelude.{ℕ, ◌≤◌, Bool, List, All, map, nat_eq}

-- the set of the pages that have this mark
abbrev pub marked : ℕ → List ℕ → List Bool
marked number marks = map (λ mark. nat_eq mark number) marks

-- no mark is of a later period
abbrev pub AreMarksUpTo : ℕ → List ℕ → Type 0
AreMarksUpTo number marks = All (λ mark. mark ≤ number) marks
