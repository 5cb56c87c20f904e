-- The trace of a recorded guest: in each epoch it gives up what it uses less than before, touches what it uses, and yields.
use Rattle.std.specs.Prelude.{ℕ, ◌+◌, ◌-◌, List, [], ◌∷◌, ◌++◌, codes, max, nat_lt, Option, Some, None, if◌then◌else◌}
use Rattle.std.specs.Fmt.{decimal}

-- the pages that it uses no more, where it used so many in the last epoch in which it had a use
abbrev pub freed : (last used : ℕ) → List (List ℕ)
freed last used = if nat_lt used last then (codes "f " ++ (decimal used ++ (codes " " ++ decimal (last - used)))) ∷ [] else []

abbrev pub touched : (used : ℕ) → List (List ℕ)
touched used = if nat_lt 0 used then (codes "t 0 " ++ decimal used) ∷ [] else []

-- the steps of an epoch, as texts
abbrev pub epoch_of : (last : ℕ) → (used : Option ℕ) → List (List ℕ)
epoch_of last None = codes "y" ∷ []
epoch_of last (Some used) = freed last used ++ (touched used ++ codes "y" ∷ [])

-- what it used in the last epoch in which it had a use
abbrev pub used_after : (last : ℕ) → (used : Option ℕ) → ℕ
used_after last None = last
used_after last (Some used) = used

abbrev pub trace_from : (last : ℕ) → (uses : List (Option ℕ)) → List (List ℕ)
trace_from last [] = []
trace_from last (used ∷ uses) = epoch_of last used ++ trace_from (used_after last used) uses

-- the trace of a guest that uses so much in each epoch, from its first one on
abbrev pub trace_of : (uses : List (Option ℕ)) → List (List ℕ)
trace_of uses = trace_from 0 uses

-- ---- how many steps that is

-- a step for each page that is freed or touched, and the yield
abbrev pub steps_in : (last : ℕ) → (used : Option ℕ) → ℕ
steps_in last None = 1
steps_in last (Some used) = (last - used) + (used + 1)

-- in all epochs
abbrev pub steps_from : (last : ℕ) → (uses : List (Option ℕ)) → ℕ
steps_from last [] = 0
steps_from last (used ∷ uses) = steps_in last used + steps_from (used_after last used) uses

-- the most of one epoch
abbrev pub longest_from : (last : ℕ) → (uses : List (Option ℕ)) → ℕ
longest_from last [] = 0
longest_from last (used ∷ uses) = max (steps_in last used) (longest_from (used_after last used) uses)
