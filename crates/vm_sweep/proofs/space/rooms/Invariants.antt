use Rattle.std.proofs.Common.{◌≡◌, ◌≤◌, vec_len, vec_capacity}
use Rattle.std.specs.List.{All}
use Rattle.vm_sweep.specs.Lanes.{IsRoomFor}
use Rattle.vm_sweep.proofs.space.rooms.Given as goal

abbrev pub invariant-loop : goal.invariant-loop
invariant-loop g l = record {
  len : vec_len l.rooms ≡ l.counter;
  room : l.lanes ≤ vec_capacity l.rooms;
  each : All (IsRoomFor l.jobs) l.rooms.items;
}
