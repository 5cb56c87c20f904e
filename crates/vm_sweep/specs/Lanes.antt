-- What a lane has, and what it made of the jobs on the board.
use Rattle.std.specs.Prelude.{◌≡◌, ◌≤◌, ℕ, List, [], map, length, Option, Some, slice_get, vec_capacity}
use Rattle.std.specs.List.{All}
use Rattle.std.specs.Global.{Vec}
use Rattle.vm_board.specs.States.{BoardState}
use Rattle.vm_board.specs.Boards.{IsNew, IsOver}
use Rattle.vm_sweep.specs.Offers.{IsAt}
use Rattle.vm_sweep.specs.declared.offer.Offer.{Offer}
use Rattle.vm_sweep.specs.declared.lane.Lane.{Lane}
use Rattle.vm_sweep.specs.declared.lane.Made.{Made}

-- the numbers of the results, in order
abbrev pub numbers : {D : Type 0} → List (Made D) → List ℕ
numbers made = map (λ m. m.number) made

-- an empty list with room for so many results
abbrev pub IsRoomFor : {D : Type 0} → ℕ → Vec (Made D) → Type 0
IsRoomFor count made = (made.items ≡ []) × (count ≤ vec_capacity made)

module _ {J D : Type 0} (result_of : J → D) where
  -- it is the result of the job at its number
  abbrev pub IsMade : List (Offer J) → Made D → Type 0
  IsMade offers m = (job : J) × IsAt offers m.number job × (m.done ≡ result_of job)

  -- the place of this number has the result of its job
  abbrev pub IsPlaced : List (Offer J) → List (Option D) → ℕ → Type 0
  IsPlaced offers places n = (job : J) → IsAt offers n job → slice_get places n ≡ Some (Some (result_of job))

module _ {J T : Type 0} (serves : T → J → Type 0) where
  -- the tool can serve each job
  abbrev pub ServesAll : List (Offer J) → T → Type 0
  ServesAll offers tool = (n : ℕ) (job : J) → IsAt offers n job → serves tool job

module _ {J T D : Type 0} (serves : T → J → Type 0) where
  -- a lane that has drawn nothing yet, with room for all results
  pub record IsReady (board : BoardState (Offer J)) (lane : Lane J T D) : Type 0 where
    pub pass : IsNew board lane.pass
    pub tool : ServesAll serves board.jobs lane.tool
    pub room : IsRoomFor (length board.jobs) lane.made

  -- a lane that is over, with the result of each number that it drew
  pub record HasWorked (result_of : J → D) (board : BoardState (Offer J)) (lane : Lane J T D) : Type 0 where
    pub pass : IsOver board lane.pass
    pub tool : ServesAll serves board.jobs lane.tool
    pub drawn : numbers lane.made.items ≡ lane.pass.drawn
    pub results : All (IsMade result_of board.jobs) lane.made.items
