use Rattle.std.proofs.Common.{◌<◌, ◌⊎◌, ℕ, vec_len}
use Rattle.std.specs.List.{All}
use Rattle.vm_board.specs.Sums.{times}
use Rattle.vm_sweep.specs.Lanes.{numbers, IsMade, IsPlaced}
use Rattle.vm_sweep.proofs.placing.place.Given as goal

-- what is left to place, with what is in its place, has all that was there
abbrev pub invariant-loop-one : goal.invariant-loop-one
invariant-loop-one g l = record {
  made : All (IsMade g.J.Task.result_of l.board.jobs) l.made.items;
  whole : (n : ℕ) → (0 < times n (numbers l.initial.made.items)) ⊎ IsPlaced g.J.Task.result_of l.board.jobs l.initial.places n
      → (0 < times n (numbers l.made.items)) ⊎ IsPlaced g.J.Task.result_of l.board.jobs l.places n;
}

abbrev pub decreases-loop-one : goal.decreases-loop-one
decreases-loop-one g l = vec_len l.made
