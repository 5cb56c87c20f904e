use Rattle.std.proofs.Common.{◌≡◌, ◌++◌, ◌-◌, IfSome, drop, length, slice_get}
use Rattle.vm_sim.specs.Course.{lines_of_epoch}
use Rattle.vm_sim.proofs.agenda.push_commands.Given as goal

-- the commands from the position on complete the lines
abbrev pub invariant-loop-position : goal.invariant-loop-position
invariant-loop-position l = record {
  so_far : l.lines ++ lines_of_epoch l.number (drop l.position l.calendar.agenda.commands) ≡ l.fn.lines ++ lines_of_epoch l.number l.calendar.agenda.commands;
  is_due : IfSome (slice_get l.calendar.agenda.commands l.position) (λ command. command.at ≡ l.number);
}

abbrev pub decreases-loop-position : goal.decreases-loop-position
decreases-loop-position l = length l.calendar.agenda.commands - l.position
