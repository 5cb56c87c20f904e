use Rattle.std.proofs.Common.{◌≤◌, ℕ}
use Rattle.vm_sim.specs.Calendar.{HaveRoom}
use Rattle.vm_sim.proofs.calendar.room_for.Given as goal

-- it is the least room for the commands so far
abbrev pub invariant-loop-position : goal.invariant-loop-position
invariant-loop-position l = record {
  enough : HaveRoom l.epochs l.commands l.position l.room.epochs l.room.commands;
  within : l.room.commands ≤ l.position;
  least : (rooms places : ℕ) → HaveRoom l.epochs l.commands l.position rooms places → (l.room.epochs ≤ rooms) × (l.room.commands ≤ places);
}
