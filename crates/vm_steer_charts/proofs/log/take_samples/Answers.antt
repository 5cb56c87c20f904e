use Rattle.std.proofs.Common.{arith, rules}
use Rattle.vm_samples.specs.LogSteps.{left}
use Rattle.vm_steer_charts.specs.Reading.{FailsToTake}
use Rattle.vm_steer_charts.proofs.FailLemmas.{passed_on}
use Rattle.vm_steer_charts.proofs.TakenLemmas.{fails_at, few_more, taken_all, taken_end, taken_next}
use Rattle.vm_steer_charts.proofs.log.take_samples.Goals as goal

pub returns-in_err-take_block-clause-failed : goal.returns-in_err-take_block-clause-failed
returns-in_err-take_block-clause-failed g c =
    passed_on c.from_residual.result c.in_err-take_block.field-0.0 (FailsToTake (left c.args.log.now (g.R.Source.remaining c.args.reader.now)) (g.R.Source.has_failed c.take_block.new.reader))
    (fails_at c.loop-number.number c.args.series.now.steering c.loop-number.series (left c.args.log.now (g.R.Source.remaining c.args.reader.now)) (left c.loop-number.log (g.R.Source.remaining c.loop-number.reader)) (g.R.Source.has_failed c.take_block.new.reader) c.in_err-take_block.field-0.0 c.loop-number.invariant.taken c.in_err-take_block.ensures.failed)
    c.from_residual.ensures.1

pub returns-then-not-branch-clause-taken : goal.returns-then-not-branch-clause-taken
returns-then-not-branch-clause-taken g c =
    taken_all c.in_ok-take_block.field-0 c.loop-number.number c.args.series.now.steering c.loop-number.series c.take_block.new.series (left c.args.log.now (g.R.Source.remaining c.args.reader.now)) (left c.loop-number.log (g.R.Source.remaining c.loop-number.reader)) (left c.take_block.new.log (g.R.Source.remaining c.take_block.new.reader)) c.take_block.new.log.block
    c.if-not-branch.true c.loop-number.invariant.taken c.in_ok-take_block.ensures.gives c.in_ok-take_block.ensures.short c.in_ok-take_block.ensures.taken

pub returns-then-not-branch-clause-ended : goal.returns-then-not-branch-clause-ended
returns-then-not-branch-clause-ended g c =
    taken_end c.in_ok-take_block.field-0 c.loop-number.number c.args.series.now.steering c.loop-number.series (left c.args.log.now (g.R.Source.remaining c.args.reader.now)) (left c.loop-number.log (g.R.Source.remaining c.loop-number.reader)) c.take_block.new.log.ahead c.take_block.new.log.block (g.R.Source.remaining c.take_block.new.reader)
    c.if-not-branch.true c.loop-number.invariant.taken c.in_ok-take_block.ensures.gives

pub returns-then-not-branch-clause-few : goal.returns-then-not-branch-clause-few
returns-then-not-branch-clause-few g c =
    let few = few_more c.in_ok-take_block.field-0 c.loop-number.series c.take_block.new.series c.take_block.new.log.block c.loop-number.number c.in_ok-take_block.ensures.taken c.loop-number.invariant.few in
    omega (arith, few)

pub loop-number-preserved : goal.loop-number-preserved
loop-number-preserved g c = record {
  taken = taken_next c.in_ok-take_block.field-0 c.loop-number.number c.args.series.now.steering c.loop-number.series c.take_block.new.series (left c.args.log.now (g.R.Source.remaining c.args.reader.now)) (left c.loop-number.log (g.R.Source.remaining c.loop-number.reader)) (left c.take_block.new.log (g.R.Source.remaining c.take_block.new.reader)) c.take_block.new.log.block
      c.if-not-branch.false c.loop-number.invariant.taken c.in_ok-take_block.ensures.gives c.in_ok-take_block.ensures.short c.in_ok-take_block.ensures.taken;
  few = few_more c.in_ok-take_block.field-0 c.loop-number.series c.take_block.new.series c.take_block.new.log.block c.loop-number.number c.in_ok-take_block.ensures.taken c.loop-number.invariant.few;
  reads = search rules;
}
