-- A working set: the pages so far, and what is kept of an interval.
use Rattle.std.specs.Prelude.{◌≡◌, ℕ, ◌<◌, List, [], ◌++◌, map, take}
use Rattle.vm_import.specs.declared.touch.Touch.{Touch}
use Rattle.vm_import.specs.declared.touch.RankedTouch.{RankedTouch}
use Rattle.vm_import.specs.Kept.{first_touches, uncovered, ranked}

pub record WorkingSetView : Type 0 where
  -- the pages in the order of their first touches over all intervals
  pub pages : List ℕ
  -- the touches of this interval that no earlier one of it covers
  pub kept : List RankedTouch

-- the working set after the touches `before` this interval, and those of the interval so far
unfoldable pub working_set : List Touch → List Touch → WorkingSetView
working_set before touches =
    let pages = first_touches (before ++ touches) in
    record { pages = pages; kept = map (ranked pages) (uncovered touches) }

-- the interval goes on with more touches
abbrev pub GoesOn : WorkingSetView → WorkingSetView → List Touch → Type 0
GoesOn old new more = (before touches : List Touch) → old ≡ working_set before touches → new ≡ working_set before (touches ++ more)

-- the interval goes on with a front of more touches
abbrev pub GoesOnByFront : WorkingSetView → WorkingSetView → List Touch → Type 0
GoesOnByFront old new more = (count : ℕ) × GoesOn old new (take count more)

-- the first list is a front of the second one
abbrev pub Extends : {A : Type 0} → List A → List A → Type 0
Extends {A} old new = (more : List A) × (new ≡ old ++ more)

-- the touch is of one of so many pages, and of one of its bytes
pub record IsWithin (pages : ℕ) (touch : RankedTouch) : Type 0 where
  pub rank : touch.rank < pages
  pub offset : touch.offset < 4096

-- another interval begins
abbrev pub Begins : WorkingSetView → WorkingSetView → Type 0
Begins old new = (before touches : List Touch) → old ≡ working_set before touches → new ≡ working_set (before ++ touches) []
