use Rattle.std.proofs.Common.{◌≡◌, ◌≤◌, ◌+◌, length, vec_len, vec_capacity}
use Rattle.std.specs.List.{All}
use Rattle.vm_board.specs.Boards.{IsNew}
use Rattle.vm_sweep.specs.Lanes.{IsRoomFor, ServesAll, IsReady}
use Rattle.vm_sweep.proofs.round.enter.Given as goal

abbrev pub invariant-loop-made : goal.invariant-loop-made
invariant-loop-made g l = record {
  passes : vec_len l.passes ≡ vec_len l.rooms;
  fresh : All (IsNew l.board) l.passes.items;
  tools : vec_len l.rooms ≤ vec_len l.tools;
  serve : All (ServesAll g.J.Task.serves l.board.jobs) l.tools.items;
  rooms : All (IsRoomFor (length l.board.jobs)) l.rooms.items;
  ready : All (IsReady g.J.Task.serves l.board) l.lanes.items;
  room : vec_len l.lanes + vec_len l.rooms ≤ vec_capacity l.lanes;
  entered : vec_len l.lanes + vec_len l.rooms ≡ vec_len l.initial.rooms;
  taken : vec_len l.tools + vec_len l.lanes ≡ vec_len l.initial.tools;
  passes_stay : vec_capacity l.passes ≡ vec_capacity l.initial.passes;
  tools_stay : vec_capacity l.tools ≡ vec_capacity l.initial.tools;
}

abbrev pub decreases-loop-made : goal.decreases-loop-made
decreases-loop-made g l = vec_len l.rooms
