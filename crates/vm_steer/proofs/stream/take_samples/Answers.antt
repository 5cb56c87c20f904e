use Rattle.std.proofs.Common.{rules}
use Rattle.vm_samples.specs.LogSteps.{left}
use Rattle.vm_steer.specs.Blocks.{FailsToTake}
use Rattle.vm_steer.proofs.BlockLemmas.{taken_all, taken_end, taken_next}
use Rattle.vm_steer.proofs.FailLemmas.{fails_at, passed_on}
use Rattle.vm_steer.proofs.stream.take_samples.Goals as goal

pub returns-in_err-take_block-clause-failed : goal.returns-in_err-take_block-clause-failed
returns-in_err-take_block-clause-failed g c =
    passed_on c.from_residual.result c.in_err-take_block.field-0.0 (FailsToTake c.args.form c.args.steering.now (left c.args.log.now (g.R.Source.remaining c.args.reader.now)) (g.W.Sink.contents c.args.writer.now) (g.W.Sink.contents c.take_block.new.writer) (g.R.Source.has_failed c.take_block.new.reader) (g.W.Sink.has_failed c.take_block.new.writer))
    (fails_at c.args.form c.loop-number.number c.args.steering.now c.loop-number.steering (g.W.Sink.contents c.args.writer.now) (g.W.Sink.contents c.loop-number.writer) (g.W.Sink.contents c.take_block.new.writer) (left c.args.log.now (g.R.Source.remaining c.args.reader.now)) (left c.loop-number.log (g.R.Source.remaining c.loop-number.reader)) (g.R.Source.has_failed c.take_block.new.reader) (g.W.Sink.has_failed c.take_block.new.writer) c.in_err-take_block.field-0.0 c.loop-number.invariant.taken c.in_err-take_block.ensures.failed)
    c.from_residual.ensures.1

pub returns-then-not-branch-clause-taken : goal.returns-then-not-branch-clause-taken
returns-then-not-branch-clause-taken g c =
    taken_all c.args.form c.in_ok-take_block.field-0 c.loop-number.number c.args.steering.now c.loop-number.steering (g.W.Sink.contents c.args.writer.now) (g.W.Sink.contents c.loop-number.writer) (g.W.Sink.contents c.take_block.new.writer) (left c.args.log.now (g.R.Source.remaining c.args.reader.now)) (left c.loop-number.log (g.R.Source.remaining c.loop-number.reader)) (left c.take_block.new.log (g.R.Source.remaining c.take_block.new.reader)) c.take_block.new.log.block
    c.if-not-branch.true c.loop-number.invariant.taken c.in_ok-take_block.ensures.gives c.in_ok-take_block.ensures.short c.in_ok-take_block.ensures.written

pub returns-then-not-branch-clause-ended : goal.returns-then-not-branch-clause-ended
returns-then-not-branch-clause-ended g c =
    taken_end c.args.form c.in_ok-take_block.field-0 c.loop-number.number c.args.steering.now c.loop-number.steering (g.W.Sink.contents c.args.writer.now) (g.W.Sink.contents c.loop-number.writer) (left c.args.log.now (g.R.Source.remaining c.args.reader.now)) (left c.loop-number.log (g.R.Source.remaining c.loop-number.reader)) c.take_block.new.log.ahead c.take_block.new.log.block (g.R.Source.remaining c.take_block.new.reader)
    c.if-not-branch.true c.loop-number.invariant.taken c.in_ok-take_block.ensures.gives

pub loop-number-preserved : goal.loop-number-preserved
loop-number-preserved g c = record {
  taken = taken_next c.args.form c.in_ok-take_block.field-0 c.loop-number.number c.args.steering.now c.loop-number.steering c.take_block.new.steering (g.W.Sink.contents c.args.writer.now) (g.W.Sink.contents c.loop-number.writer) (g.W.Sink.contents c.take_block.new.writer) (left c.args.log.now (g.R.Source.remaining c.args.reader.now)) (left c.loop-number.log (g.R.Source.remaining c.loop-number.reader)) (left c.take_block.new.log (g.R.Source.remaining c.take_block.new.reader)) c.take_block.new.log.block
      c.if-not-branch.false c.loop-number.invariant.taken c.in_ok-take_block.ensures.gives c.in_ok-take_block.ensures.short c.in_ok-take_block.ensures.taken c.in_ok-take_block.ensures.written;
  reads = search rules;
  writes = search rules;
}
