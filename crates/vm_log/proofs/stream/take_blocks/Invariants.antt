use Rattle.std.proofs.Common.{◌≡◌}
use Rattle.vm_samples.specs.LogSteps.{left}
use Rattle.vm_log.specs.Courses.{IsOnWay}
use Rattle.vm_log.proofs.stream.take_blocks.Given as goal

-- the blocks so far were taken
abbrev pub invariant-loop : goal.invariant-loop
invariant-loop g l = record {
  way : IsOnWay l.every l.counter l.fn.course (left l.fn.log (g.R.Source.remaining l.fn.reader)) l.course (left l.log (g.R.Source.remaining l.reader));
  reads : g.R.Source.has_failed l.reader ≡ g.R.Source.has_failed l.fn.reader;
}
