-- The steps of a recorded guest.
use Rattle.std.specs.Prelude.{ℕ, ◌-◌, List, [], ◌∷◌, ◌++◌, map, Option, Some, None}
use Rattle.std.specs.List.{range_with_len}
use Rattle.vm_recorded.specs.Traces.{used_after}
use Rattle.vm_trace.specs.declared.step.Action.{Action}
use Rattle.vm_trace.specs.declared.step.Action.TheVariants.{Free, Touch, Yield}

-- an epoch: each page that it uses no more is freed, each that it uses is touched, and then it yields
abbrev pub actions_in : (last : ℕ) → (used : Option ℕ) → List Action
actions_in last None = Yield ∷ []
actions_in last (Some used) = map Free (range_with_len used (last - used)) ++ (map Touch (range_with_len 0 used) ++ Yield ∷ [])

-- all epochs, behind one with such a use
abbrev pub actions_from : (last : ℕ) → (uses : List (Option ℕ)) → List Action
actions_from last [] = []
actions_from last (used ∷ uses) = actions_in last used ++ actions_from (used_after last used) uses

-- the steps of a guest that uses so much in each epoch, from its first one on
abbrev pub actions_of : (uses : List (Option ℕ)) → List Action
actions_of uses = actions_from 0 uses
