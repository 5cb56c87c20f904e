use Rattle.std.proofs.Common.{◌≡◌, ◌≤◌, ◌-◌, length, vec_capacity}
use Rattle.std.specs.List.{All}
use Rattle.vm_board.specs.Boards.{IsIdle}
use Rattle.vm_sweep.specs.Lanes.{numbers, IsMade, ServesAll}
use Rattle.vm_sweep.proofs.LaneLists.{IsSparse}
use Rattle.vm_sweep.proofs.lane.run_drawn.Given as goal

abbrev pub invariant-loop-number : goal.invariant-loop-number
invariant-loop-number g l = record {
  idle : IsIdle l.board l.pass;
  tool : ServesAll g.J.Task.serves l.board.jobs l.tool;
  drawn : numbers l.made.items ≡ l.pass.drawn;
  results : All (IsMade g.J.Task.result_of l.board.jobs) l.made.items;
  sparse : IsSparse l.pass.drawn;
  room : length l.board.jobs ≤ vec_capacity l.made;
}

abbrev pub decreases-loop-number : goal.decreases-loop-number
decreases-loop-number g l = length l.board.jobs - length l.pass.drawn
