use Rattle.std.proofs.Common.{◌≡◌, ◌∙◌, ◌+◌, Err, None, Some, ap, subst, sym}
use Rattle.vm_samples.specs.LogSteps.{left}
use Rattle.vm_steer.proofs.FailLemmas.{kept_by}
use Rattle.vm_log.specs.declared.stream.Course.{Course}
use Rattle.vm_log.specs.declared.stream.Step.TheVariants.{Good, Bad}
use Rattle.vm_log.specs.Courses.{FailsToTake, IsOnWay}
use Rattle.vm_log.specs.Errors.{error_of_log}
use Rattle.vm_log.proofs.CourseLemmas.{adds_none, adds_one, ended_under, ends, ends_writable, fails_next, passed_on, passes, passes_writable, step_is}
use Rattle.vm_log.proofs.stream.take_blocks.Goals.{in-Good-None, in-Bad}
use Rattle.vm_log.proofs.stream.take_blocks.Goals as goal

pub returns-in_err-next-clause-failed : goal.returns-in_err-next-clause-failed
returns-in_err-next-clause-failed g c =
    passed_on c.from_residual.result (error_of_log c.in_err-next.field-0.0) (FailsToTake (left c.args.log.now (g.R.Source.remaining c.args.reader.now)) (g.R.Source.has_failed c.next.new.source))
    (fails_next c.args.every c.loop.counter c.args.course.now c.loop.course (left c.args.log.now (g.R.Source.remaining c.args.reader.now)) (left c.loop.log (g.R.Source.remaining c.loop.reader)) c.loop.invariant.way
    (g.R.Source.has_failed c.next.new.source) c.in_err-next.field-0.0 (λ is. c.in_err-next.ensures.failure (ap Err is)) (λ is. c.in_err-next.ensures.long (ap Err is)))
    c.from_residual.ensures.1

pub returns-then-not-branch-clause-taken : goal.returns-then-not-branch-clause-taken
returns-then-not-branch-clause-taken g c =
    ends c.args.every c.loop.counter c.args.course.now c.loop.course (left c.args.log.now (g.R.Source.remaining c.args.reader.now)) (left c.loop.log (g.R.Source.remaining c.loop.reader)) c.loop.invariant.way
    c.end.new.recording c.end.result c.in_ok-next.field-0 c.next.new.self.block (left c.next.new.self (g.R.Source.remaining c.next.new.source)) c.if-not-branch.true c.in_ok-next.ensures.gives
    (ended_under c.policy.result.now c.loop.course.steering.policy c.args.every c.loop.invariant.way.before c.loop.course.recording c.end.new.recording c.end.result c.policy.ensures c.loop.invariant.way.follows c.end.ensures)

pub returns-then-not-branch-clause-writable : goal.returns-then-not-branch-clause-writable
returns-then-not-branch-clause-writable g c =
    ends_writable c.args.every c.loop.counter c.args.course.now c.loop.course (left c.args.log.now (g.R.Source.remaining c.args.reader.now)) (left c.loop.log (g.R.Source.remaining c.loop.reader)) c.loop.invariant.way
    c.end.new.recording c.end.result (ended_under c.policy.result.now c.loop.course.steering.policy c.args.every c.loop.invariant.way.before c.loop.course.recording c.end.new.recording c.end.result c.policy.ensures c.loop.invariant.way.follows c.end.ensures)

pub returns-in-Good-Some-clause-taken : goal.returns-in-Good-Some-clause-taken
returns-in-Good-Some-clause-taken g c =
    let outer = c.in-Good-Some.is in
    let inner = c.in-Good-Some.field-0-is in
    let limit_is = c.in-Good-Some.limit-is in
    let good : c.in_ok-take_block.field-0 ≡ Good (Some c.in-Good-Some.limit) = cc in
    passes c.args.every c.loop.counter c.args.course.now c.loop.course (left c.args.log.now (g.R.Source.remaining c.args.reader.now)) (left c.loop.log (g.R.Source.remaining c.loop.reader)) c.loop.invariant.way
    c.take_block.new.steering c.take_block.new.recording c.in-Good-Some.limit c.in_ok-next.field-0 c.next.new.self.block (left c.next.new.self (g.R.Source.remaining c.next.new.source)) c.if-not-branch.false c.in_ok-next.ensures.gives
    (step_is c.args.every c.loop.course.steering c.take_block.new.steering c.loop.invariant.way.before c.take_block.new.recording c.next.new.self.block c.block.result.now c.in_ok-take_block.field-0 (Good (Some c.in-Good-Some.limit)) c.block.ensures good
    (c.in_ok-take_block.ensures.taken c.loop.invariant.way.before c.loop.invariant.way.follows))

pub returns-in-Good-Some-clause-writable : goal.returns-in-Good-Some-clause-writable
returns-in-Good-Some-clause-writable g c =
    let outer = c.in-Good-Some.is in
    let inner = c.in-Good-Some.field-0-is in
    let limit_is = c.in-Good-Some.limit-is in
    let good : c.in_ok-take_block.field-0 ≡ Good (Some c.in-Good-Some.limit) = cc in
    passes_writable c.args.every c.loop.counter c.args.course.now c.loop.course (left c.args.log.now (g.R.Source.remaining c.args.reader.now)) (left c.loop.log (g.R.Source.remaining c.loop.reader)) c.loop.invariant.way
    c.take_block.new.steering c.take_block.new.recording c.in-Good-Some.limit c.next.new.self.block
    (step_is c.args.every c.loop.course.steering c.take_block.new.steering c.loop.invariant.way.before c.take_block.new.recording c.next.new.self.block c.block.result.now c.in_ok-take_block.field-0 (Good (Some c.in-Good-Some.limit)) c.block.ensures good
    (c.in_ok-take_block.ensures.taken c.loop.invariant.way.before c.loop.invariant.way.follows))

pub loop-preserved : goal.loop-preserved
loop-preserved g c = record {
  way = elim c.match-branch-3.branch [
    | in-Good-None w ↦
        let outer = w.in-Good-None.is in
        let inner = w.in-Good-None.field-0-is in
        let good : c.in_ok-take_block.field-0 ≡ Good None = cc in
        subst (λ (v : Course). IsOnWay c.args.every (c.loop.counter + 1) c.args.course.now (left c.args.log.now (g.R.Source.remaining c.args.reader.now)) v (left c.next.new.self (g.R.Source.remaining c.next.new.source))) (sym w.course-is)
        (adds_none c.args.every c.loop.counter c.args.course.now c.loop.course (left c.args.log.now (g.R.Source.remaining c.args.reader.now)) (left c.loop.log (g.R.Source.remaining c.loop.reader)) c.loop.invariant.way
        c.take_block.new.steering c.take_block.new.recording c.in_ok-next.field-0 c.next.new.self.block (left c.next.new.self (g.R.Source.remaining c.next.new.source)) c.if-not-branch.false c.in_ok-next.ensures.gives c.in_ok-next.ensures.short
        (step_is c.args.every c.loop.course.steering c.take_block.new.steering c.loop.invariant.way.before c.take_block.new.recording c.next.new.self.block c.block.result.now c.in_ok-take_block.field-0 (Good None) c.block.ensures good
        (c.in_ok-take_block.ensures.taken c.loop.invariant.way.before c.loop.invariant.way.follows)))
    | in-Bad w ↦
        subst (λ (v : Course). IsOnWay c.args.every (c.loop.counter + 1) c.args.course.now (left c.args.log.now (g.R.Source.remaining c.args.reader.now)) v (left c.next.new.self (g.R.Source.remaining c.next.new.source))) (sym w.course-is)
        (adds_one c.args.every c.loop.counter c.args.course.now c.loop.course (left c.args.log.now (g.R.Source.remaining c.args.reader.now)) (left c.loop.log (g.R.Source.remaining c.loop.reader)) c.loop.invariant.way
        c.take_block.new.steering c.take_block.new.recording c.in_ok-next.field-0 c.next.new.self.block (left c.next.new.self (g.R.Source.remaining c.next.new.source)) c.if-not-branch.false c.in_ok-next.ensures.gives c.in_ok-next.ensures.short
        (step_is c.args.every c.loop.course.steering c.take_block.new.steering c.loop.invariant.way.before c.take_block.new.recording c.next.new.self.block c.block.result.now c.in_ok-take_block.field-0 Bad c.block.ensures w.in-Bad.is
        (c.in_ok-take_block.ensures.taken c.loop.invariant.way.before c.loop.invariant.way.follows)))
  ];
  reads = kept_by c.in_ok-next.field-0 (g.R.Source.has_failed c.loop.reader) (g.R.Source.has_failed c.next.new.source) c.in_ok-next.ensures.stays ∙ c.loop.invariant.reads;
}
