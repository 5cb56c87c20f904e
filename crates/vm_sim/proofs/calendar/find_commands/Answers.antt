use Rattle.std.proofs.Common.{arith}
use Rattle.vm_sim.proofs.CalendarLemmas.{none_found}
use Rattle.vm_sim.proofs.calendar.find_commands.Goals as goal

pub loop-position-init : goal.loop-position-init
loop-position-init c = record {
  within = omega arith;
  found = none_found c.args.epochs c.args.commands.now c.args.first.now c.args.next.now c.requires.none c.requires.room;
}
