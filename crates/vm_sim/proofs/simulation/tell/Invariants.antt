use Rattle.std.proofs.Common.{◌≡◌}
use Rattle.std.specs.Io.KnownBytes.{Appends}
use Rattle.vm_sim.specs.Calendar.{course_asked}
use Rattle.vm_runs.specs.Course.{host_after}
use Rattle.vm_sim.specs.Report.{report_of_epochs}
use Rattle.vm_sim.proofs.simulation.tell.Given as goal

-- what is told of the epochs so far was written
abbrev pub invariant-loop-number : goal.invariant-loop-number
invariant-loop-number g l = record {
  host : l.host ≡ host_after (course_asked l.calendar l.fn.host) l.number;
  written : Appends (g.W.Sink.contents l.fn.writer) (g.W.Sink.contents l.writer) (report_of_epochs (course_asked l.calendar l.fn.host) l.number);
  stays : g.W.Sink.has_failed l.writer ≡ g.W.Sink.has_failed l.fn.writer;
}
