use Rattle.std.proofs.Common.{◌≡◌, ◌+◌, ◌≤◌, length}
use Rattle.vm_samples.specs.LogSteps.{left}
use Rattle.vm_steer_charts.specs.Reading.{AreTakenOf}
use Rattle.vm_steer_charts.proofs.log.take_samples.Given as goal

-- the blocks so far were taken
abbrev pub invariant-loop-number : goal.invariant-loop-number
invariant-loop-number g l = record {
  taken : AreTakenOf l.number l.fn.series.steering l.series (left l.fn.log (g.R.Source.remaining l.fn.reader)) (left l.log (g.R.Source.remaining l.reader));
  few : l.series.first + length l.series.rows ≤ l.number;
  reads : g.R.Source.has_failed l.reader ≡ g.R.Source.has_failed l.fn.reader;
}
