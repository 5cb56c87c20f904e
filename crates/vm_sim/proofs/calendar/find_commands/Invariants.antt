use Rattle.std.proofs.Common.{◌≤◌, length}
use Rattle.vm_sim.specs.Calendar.{IsCalendar}
use Rattle.vm_sim.proofs.calendar.find_commands.Given as goal

-- it is a calendar of the commands from here on
abbrev pub invariant-loop-position : goal.invariant-loop-position
invariant-loop-position l = record {
  within : l.position ≤ length l.commands;
  found : IsCalendar l.epochs l.position l.commands l.first l.next;
}

abbrev pub decreases-loop-position : goal.decreases-loop-position
decreases-loop-position l = l.position
