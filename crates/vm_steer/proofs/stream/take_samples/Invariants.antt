use Rattle.std.proofs.Common.{◌≡◌}
use Rattle.vm_samples.specs.LogSteps.{left}
use Rattle.vm_steer.specs.Blocks.{AreTakenOf}
use Rattle.vm_steer.proofs.stream.take_samples.Given as goal

-- the blocks so far were taken
abbrev pub invariant-loop-number : goal.invariant-loop-number
invariant-loop-number g l = record {
  taken : AreTakenOf l.form l.number l.fn.steering (g.W.Sink.contents l.fn.writer) (g.W.Sink.contents l.writer) l.steering
      (left l.fn.log (g.R.Source.remaining l.fn.reader)) (left l.log (g.R.Source.remaining l.reader));
  reads : g.R.Source.has_failed l.reader ≡ g.R.Source.has_failed l.fn.reader;
  writes : g.W.Sink.has_failed l.writer ≡ g.W.Sink.has_failed l.fn.writer;
}
