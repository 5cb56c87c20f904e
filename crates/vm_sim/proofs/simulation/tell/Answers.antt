use Rattle.std.proofs.Common.{◌≡◌, ℕ, List, ap, subst, ◌∙◌, arith, rules, add-one}
use Rattle.std.specs.Io.KnownBytes.{Appends}
use Rattle.vm_runs.specs.Course.{host_after}
use Rattle.vm_sim.specs.Calendar.{course_asked}
use Rattle.vm_sim.proofs.CourseLemmas.{next_in_course, told_in_course}
use Rattle.vm_streams.proofs.StreamLemmas.{AppendsFront-none, Appends-then}
use Rattle.vm_sim.proofs.FrontLemmas.{cut_in_epoch, cut_at_end, told_all}
use Rattle.vm_sim.specs.Course.{course_from}
use Rattle.vm_sim.specs.Report.{end_text}
use Rattle.vm_sim.proofs.simulation.tell.Goals as goal

pub returns-in_err-epoch-clause-front : goal.returns-in_err-epoch-clause-front
returns-in_err-epoch-clause-front g c =
    let course = course_from c.args.calendar.now.epochs c.args.calendar.now.agenda c.args.host.now in
    cut_in_epoch c.from_residual.result _ _ _ course c.loop-number.number (omega arith) c.loop-number.invariant.written
    (rw (← told_in_course c.args.calendar.now.epochs c.args.calendar.now.agenda c.args.host.now c.loop-number.number c.loop-number.host c.loop-number.invariant.host) c.in_err-epoch.ensures.front)

pub returns-in_err-told-clause-front : goal.returns-in_err-told-clause-front
returns-in_err-told-clause-front g c =
    cut_at_end c.from_residual-in_err-told.result _ _ _ (course_from c.args.calendar.now.epochs c.args.calendar.now.agenda c.args.host.now) c.loop-number.number (omega arith)
    c.loop-number.invariant.written (AppendsFront-none _ _)

pub returns-in_err-write_told-clause-front : goal.returns-in_err-write_told-clause-front
returns-in_err-write_told-clause-front g c =
    cut_at_end c.from_residual-in_err-write_told.result _ _ _ (course_from c.args.calendar.now.epochs c.args.calendar.now.agenda c.args.host.now) c.loop-number.number (omega arith)
    c.loop-number.invariant.written (search rules)

pub loop-number-preserved : goal.loop-number-preserved
loop-number-preserved g c =
    let k = c.loop-number.number in
    record {
      host = rw add-one (next_in_course c.args.calendar.now.epochs c.args.calendar.now.agenda c.args.host.now k c.loop-number.host _ c.loop-number.invariant.host c.in_ok-epoch.ensures.host);
      written = rw add-one (Appends-then _ _ _ _ _ c.loop-number.invariant.written
          (rw (told_in_course c.args.calendar.now.epochs c.args.calendar.now.agenda c.args.host.now k c.loop-number.host c.loop-number.invariant.host) at c.in_ok-epoch.ensures.written));
      stays = c.in_ok-epoch.ensures.stays ∙ c.loop-number.invariant.stays;
    }

pub returns-clause-host : goal.returns-clause-host
returns-clause-host g c =
    let all : c.loop-number.number ≡ c.args.calendar.now.epochs = omega arith in
    c.loop-number.invariant.host ∙ ap (host_after (course_asked c.args.calendar.now c.args.host.now)) all

pub returns-clause-written : goal.returns-clause-written
returns-clause-written g c =
    let all : c.loop-number.number ≡ c.args.calendar.now.epochs = omega arith in
    told_all _ _ _ (course_asked c.args.calendar.now c.args.host.now) c.loop-number.number all c.loop-number.invariant.written
    (subst (λ (text : List ℕ). Appends (g.W.Sink.contents c.loop-number.writer) (g.W.Sink.contents c.write_told.new.writer) text)
    (c.in_ok-told.ensures ∙ ap end_text c.loop-number.invariant.host) c.in_ok-write_told.ensures.written)
