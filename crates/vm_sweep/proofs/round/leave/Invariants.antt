use Rattle.std.proofs.Common.{◌≡◌, ◌<◌, ◌≤◌, ◌+◌, ℕ, vec_len, vec_capacity}
use Rattle.std.specs.List.{All}
use Rattle.vm_board.specs.Boards.{IsOver}
use Rattle.vm_board.specs.Sums.{total, times}
use Rattle.vm_sweep.specs.Lanes.{IsPlaced, ServesAll, HasWorked}
use Rattle.vm_sweep.proofs.round.leave.Given as goal

-- what the passes that are back drew is in its place
abbrev pub invariant-loop-lane : goal.invariant-loop-lane
invariant-loop-lane g l = record {
  worked : All (HasWorked g.J.Task.serves g.J.Task.result_of l.board) l.lanes.items;
  back : vec_len l.passes + vec_len l.lanes ≡ vec_len l.initial.lanes;
  over : All (IsOver l.board) l.passes.items;
  room : vec_len l.passes + vec_len l.lanes ≤ vec_capacity l.passes;
  tools : vec_len l.tools + vec_len l.lanes ≡ vec_len l.initial.tools + vec_len l.initial.lanes;
  tools_room : vec_len l.tools + vec_len l.lanes ≤ vec_capacity l.tools;
  serve : All (ServesAll g.J.Task.serves l.board.jobs) l.tools.items;
  placed : (n : ℕ) → 0 < total (λ p. times n p.drawn) l.passes.items → IsPlaced g.J.Task.result_of l.board.jobs l.places n;
}

abbrev pub decreases-loop-lane : goal.decreases-loop-lane
decreases-loop-lane g l = vec_len l.lanes
