-- Intervals of accesses, and what is kept of each.
use Rattle.std.specs.Prelude.{ℕ, zero, suc, ◌+◌, ◌-◌, ◌/◌, Bool, List, [], ◌∷◌, ◌++◌, length, take, drop}
use Rattle.vm_import.specs.declared.access.Access.{Access}
use Rattle.vm_import.specs.declared.touch.Touch.{Touch}
use Rattle.vm_import.specs.declared.touch.RankedTouch.{RankedTouch}
use Rattle.vm_import.specs.WorkingSets.{working_set}
use Rattle.vm_import.specs.Touched.{touches_in}

-- a quotient, rounded up
abbrev pub rounded_up : ℕ → ℕ → ℕ
rounded_up number divisor = (number + (divisor - 1)) / divisor

-- so many lists of so many accesses, one behind the other
abbrev pub cut : (lines count : ℕ) → List Access → List (List Access)
cut lines zero accesses = []
cut lines (suc count) accesses = take lines accesses ∷ cut lines count (drop lines accesses)

-- the intervals of so many accesses; the last one may have fewer
abbrev pub intervals_of : ℕ → List Access → List (List Access)
intervals_of lines accesses = cut lines (rounded_up (length accesses) lines) accesses

-- what each interval keeps of its touches, where these touches came before
abbrev pub kept_behind : Bool → List Touch → List (List Access) → List (List RankedTouch)
kept_behind has_code before [] = []
kept_behind has_code before (interval ∷ intervals) =
    let touches = touches_in has_code interval in
    (working_set before touches).kept ∷ kept_behind has_code (before ++ touches) intervals

-- what each interval keeps
abbrev pub kept_in : Bool → List (List Access) → List (List RankedTouch)
kept_in has_code intervals = kept_behind has_code [] intervals
