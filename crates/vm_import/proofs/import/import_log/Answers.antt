use Rattle.std.proofs.Common.{◌≡◌, ◌∙◌, ◌<◌, ◌≤◌, ◌^◌, refl, subst, arith}
use Rattle.std.specs.Io.KnownBytes.{Appends}
use Rattle.vm_import.specs.Reading.{Place, Stays, beginning, left, length_in_all}
use Rattle.vm_streams.specs.Streams.{AppendsFront}
use Rattle.vm_import.specs.Drafts.{DraftView, with_text}
use Rattle.vm_import.specs.Failing.{FailsToSkip, Skips}
use Rattle.vm_import.specs.Imports.{Fails}
use Rattle.vm_import.specs.Progress.{IsShort}
use Rattle.vm_import.specs.Settings.{settings_of}
use Rattle.vm_import.specs.Texts.{tail_of}
use Rattle.vm_import.specs.declared.outcome.ImportError.TheVariants.{Memory, Read, Write}
use Rattle.vm_import.proofs.FailedLemmas.{is_error, kept_by, not_newly, since_earlier, told_by}
use Rattle.vm_import.proofs.ImportLemmas.{fails-skipping, fails-taking, front-stopped, front-unfinished, front-unwritten, guest-written, untouched}
use Rattle.vm_import.proofs.ReadLemmas.{passed-on}
use Rattle.vm_import.proofs.import.import_log.Goals as goal

steps_fit : (draft : DraftView) → IsShort draft → draft.steps < 2 ^ 63
steps_fit draft short = let few = short.steps in omega (arith, few)

pub returns-in_err-skip-clause-failed : goal.returns-in_err-skip-clause-failed
returns-in_err-skip-clause-failed g c =
    passed-on c.from_residual-in_err-skip.result c.in_err-skip.field-0.0 (Fails (settings_of c.args.settings.now) (g.R.Source.remaining c.args.reader.now) (g.W.Sink.contents c.args.writer.now) (g.W.Sink.contents c.args.writer.now) (g.R.Source.has_failed c.skip.new.reader) (g.W.Sink.has_failed c.args.writer.now))
    (fails-skipping (settings_of c.args.settings.now) (g.R.Source.remaining c.args.reader.now) (g.W.Sink.contents c.args.writer.now) (g.R.Source.has_failed c.skip.new.reader) (g.W.Sink.has_failed c.args.writer.now) c.in_err-skip.field-0.0
    (subst (λ (place : Place). FailsToSkip c.args.settings.now.skip (left place (g.R.Source.remaining c.args.reader.now)) (length_in_all place (g.R.Source.remaining c.args.reader.now)) (g.R.Source.has_failed c.skip.new.reader) c.in_err-skip.field-0.0)
    c.in_ok-log.ensures c.in_err-skip.ensures.failed))
    c.from_residual-in_err-skip.ensures.1

pub returns-in_err-taken-clause-failed : goal.returns-in_err-taken-clause-failed
returns-in_err-taken-clause-failed g c =
    let skips : Skips c.args.settings.now.skip (left beginning (g.R.Source.remaining c.args.reader.now)) (left c.skip.new.log (g.R.Source.remaining c.skip.new.reader)) =
    subst (λ (place : Place). Skips c.args.settings.now.skip (left place (g.R.Source.remaining c.args.reader.now)) (left c.skip.new.log (g.R.Source.remaining c.skip.new.reader))) c.in_ok-log.ensures c.in_ok-skip.ensures.skipped in
    let stays : Stays (length_in_all beginning (g.R.Source.remaining c.args.reader.now)) (length_in_all c.skip.new.log (g.R.Source.remaining c.skip.new.reader)) =
    subst (λ (place : Place). Stays (length_in_all place (g.R.Source.remaining c.args.reader.now)) (length_in_all c.skip.new.log (g.R.Source.remaining c.skip.new.reader))) c.in_ok-log.ensures c.in_ok-skip.ensures.length in
    passed-on c.from_residual-in_err-taken.result c.in_err-taken.field-0.0 (Fails (settings_of c.args.settings.now) (g.R.Source.remaining c.args.reader.now) (g.W.Sink.contents c.args.writer.now) (g.W.Sink.contents c.take_intervals.new.writer) (g.R.Source.has_failed c.take_intervals.new.reader) (g.W.Sink.has_failed c.take_intervals.new.writer))
    (fails-taking (settings_of c.args.settings.now) (g.R.Source.remaining c.args.reader.now) (g.W.Sink.contents c.args.writer.now) (g.W.Sink.contents c.take_intervals.new.writer) (left c.skip.new.log (g.R.Source.remaining c.skip.new.reader)) (length_in_all c.skip.new.log (g.R.Source.remaining c.skip.new.reader)) (g.R.Source.has_failed c.take_intervals.new.reader) (g.W.Sink.has_failed c.take_intervals.new.writer) c.in_err-taken.field-0.0 skips stays
    (front-stopped (settings_of c.args.settings.now) (g.R.Source.remaining c.args.reader.now) (left c.skip.new.log (g.R.Source.remaining c.skip.new.reader)) c.in_err-taken.ensures.stopped.accesses c.in_err-taken.ensures.stopped.rest (g.W.Sink.contents c.args.writer.now) (g.W.Sink.contents c.take_intervals.new.writer) skips
    c.in_err-taken.ensures.stopped.reads c.in_err-taken.ensures.stopped.front)
    c.in_err-taken.ensures.failed)
    c.from_residual-in_err-taken.ensures.1

pub returns-then-taken-eq0-clause-failed : goal.returns-then-taken-eq0-clause-failed
returns-then-taken-eq0-clause-failed g c =
    let skips : Skips c.args.settings.now.skip (left beginning (g.R.Source.remaining c.args.reader.now)) (left c.skip.new.log (g.R.Source.remaining c.skip.new.reader)) =
    subst (λ (place : Place). Skips c.args.settings.now.skip (left place (g.R.Source.remaining c.args.reader.now)) (left c.skip.new.log (g.R.Source.remaining c.skip.new.reader))) c.in_ok-log.ensures c.in_ok-skip.ensures.skipped in
    untouched (settings_of c.args.settings.now) (g.R.Source.remaining c.args.reader.now) (left c.skip.new.log (g.R.Source.remaining c.skip.new.reader)) (g.W.Sink.contents c.args.writer.now) (g.W.Sink.contents c.take_intervals.new.writer) c.in_ok-taken.taken c.take_intervals.new.progress.draft skips c.in_ok-taken.ensures.taken c.if-taken-eq0.true (c.in_ok-taken.ensures.silent c.if-taken-eq0.true) (g.R.Source.has_failed c.take_intervals.new.reader) (g.W.Sink.has_failed c.take_intervals.new.writer)

pub returns-in_err-finish-clause-failed : goal.returns-in_err-finish-clause-failed
returns-in_err-finish-clause-failed g c =
    let skips : Skips c.args.settings.now.skip (left beginning (g.R.Source.remaining c.args.reader.now)) (left c.skip.new.log (g.R.Source.remaining c.skip.new.reader)) =
    subst (λ (place : Place). Skips c.args.settings.now.skip (left place (g.R.Source.remaining c.args.reader.now)) (left c.skip.new.log (g.R.Source.remaining c.skip.new.reader))) c.in_ok-log.ensures c.in_ok-skip.ensures.skipped in
    passed-on c.from_residual-in_err-finish.result Memory (Fails (settings_of c.args.settings.now) (g.R.Source.remaining c.args.reader.now) (g.W.Sink.contents c.args.writer.now) (g.W.Sink.contents c.take_intervals.new.writer) (g.R.Source.has_failed c.take_intervals.new.reader) (g.W.Sink.has_failed c.take_intervals.new.writer)) (front-unfinished (settings_of c.args.settings.now) (g.R.Source.remaining c.args.reader.now) (left c.skip.new.log (g.R.Source.remaining c.skip.new.reader)) (g.W.Sink.contents c.args.writer.now) (g.W.Sink.contents c.take_intervals.new.writer) c.in_ok-taken.taken c.take_intervals.new.progress.draft skips c.in_ok-taken.ensures.taken)
    c.from_residual-in_err-finish.ensures.1

pub returns-in_err-write-clause-failed : goal.returns-in_err-write-clause-failed
returns-in_err-write-clause-failed g c =
    let skips : Skips c.args.settings.now.skip (left beginning (g.R.Source.remaining c.args.reader.now)) (left c.skip.new.log (g.R.Source.remaining c.skip.new.reader)) =
    subst (λ (place : Place). Skips c.args.settings.now.skip (left place (g.R.Source.remaining c.args.reader.now)) (left c.skip.new.log (g.R.Source.remaining c.skip.new.reader))) c.in_ok-log.ensures c.in_ok-skip.ensures.skipped in
    passed-on c.from_residual-in_err-write.result Write (Fails (settings_of c.args.settings.now) (g.R.Source.remaining c.args.reader.now) (g.W.Sink.contents c.args.writer.now) (g.W.Sink.contents c.write.new.writer) (g.R.Source.has_failed c.take_intervals.new.reader) (g.W.Sink.has_failed c.write.new.writer)) (
      front-unwritten (settings_of c.args.settings.now) (g.R.Source.remaining c.args.reader.now) (left c.skip.new.log (g.R.Source.remaining c.skip.new.reader)) (g.W.Sink.contents c.args.writer.now) (g.W.Sink.contents c.take_intervals.new.writer) c.in_ok-taken.taken c.take_intervals.new.progress.draft skips c.in_ok-taken.ensures.taken (g.W.Sink.contents c.write.new.writer)
          (subst (λ (d : DraftView). AppendsFront (g.W.Sink.contents c.take_intervals.new.writer) (g.W.Sink.contents c.write.new.writer) d.text) {y = with_text c.take_intervals.new.progress.draft (tail_of (settings_of c.args.settings.now) c.in_ok-taken.taken.size c.take_intervals.new.progress.draft.steps)} c.in_ok-finish.ensures c.in_err-write.ensures.front),
      c.in_err-write.ensures.failure,
    )
    c.from_residual-in_err-write.ensures.1

pub returns-clause-guest : goal.returns-clause-guest
returns-clause-guest g c =
    let skips : Skips c.args.settings.now.skip (left beginning (g.R.Source.remaining c.args.reader.now)) (left c.skip.new.log (g.R.Source.remaining c.skip.new.reader)) =
    subst (λ (place : Place). Skips c.args.settings.now.skip (left place (g.R.Source.remaining c.args.reader.now)) (left c.skip.new.log (g.R.Source.remaining c.skip.new.reader))) c.in_ok-log.ensures c.in_ok-skip.ensures.skipped in
    let some : 1 ≤ c.in_ok-taken.taken.size = omega arith in
    guest-written (settings_of c.args.settings.now) (g.R.Source.remaining c.args.reader.now) (left c.skip.new.log (g.R.Source.remaining c.skip.new.reader)) (g.W.Sink.contents c.args.writer.now) (g.W.Sink.contents c.take_intervals.new.writer) c.in_ok-taken.taken c.take_intervals.new.progress.draft skips c.in_ok-taken.ensures.taken (g.W.Sink.contents c.write.new.writer) some (subst (λ (d : DraftView). Appends (g.W.Sink.contents c.take_intervals.new.writer) (g.W.Sink.contents c.write.new.writer) d.text) {y = with_text c.take_intervals.new.progress.draft (tail_of (settings_of c.args.settings.now) c.in_ok-taken.taken.size c.take_intervals.new.progress.draft.steps)} c.in_ok-finish.ensures c.in_ok-write.ensures.written)

pub returns-in_err-log-clause-reader_failed : goal.returns-in_err-log-clause-reader_failed
returns-in_err-log-clause-reader_failed g c =
    λ newly. absurd (not_newly (g.R.Source.has_failed c.args.reader.now) (g.R.Source.has_failed c.args.reader.now) (refl) newly)

pub returns-in_err-log-clause-writer_failed : goal.returns-in_err-log-clause-writer_failed
returns-in_err-log-clause-writer_failed g c =
    λ newly. absurd (not_newly (g.W.Sink.has_failed c.args.writer.now) (g.W.Sink.has_failed c.args.writer.now) (refl) newly)

pub returns-in_err-skip-clause-reader_failed : goal.returns-in_err-skip-clause-reader_failed
returns-in_err-skip-clause-reader_failed g c =
    λ newly.
    told_by c.from_residual-in_err-skip.result c.in_err-skip.field-0.0 Read (g.R.Source.has_failed c.args.reader.now) (g.R.Source.has_failed c.skip.new.reader) c.from_residual-in_err-skip.ensures.1
    c.in_err-skip.ensures.stays newly

pub returns-in_err-skip-clause-writer_failed : goal.returns-in_err-skip-clause-writer_failed
returns-in_err-skip-clause-writer_failed g c =
    λ newly. absurd (not_newly (g.W.Sink.has_failed c.args.writer.now) (g.W.Sink.has_failed c.args.writer.now) (refl) newly)

pub returns-in_err-progress-clause-reader_failed : goal.returns-in_err-progress-clause-reader_failed
returns-in_err-progress-clause-reader_failed g c =
    λ newly. absurd (not_newly (g.R.Source.has_failed c.args.reader.now) (g.R.Source.has_failed c.skip.new.reader) (kept_by (g.R.Source.has_failed c.skip.new.reader ≡ g.R.Source.has_failed c.args.reader.now) _ Read c.in_ok-skip.ensures.stays) newly)

pub returns-in_err-progress-clause-writer_failed : goal.returns-in_err-progress-clause-writer_failed
returns-in_err-progress-clause-writer_failed g c =
    λ newly. absurd (not_newly (g.W.Sink.has_failed c.args.writer.now) (g.W.Sink.has_failed c.args.writer.now) (refl) newly)

pub returns-in_err-taken-clause-reader_failed : goal.returns-in_err-taken-clause-reader_failed
returns-in_err-taken-clause-reader_failed g c =
    λ newly.
    told_by c.from_residual-in_err-taken.result c.in_err-taken.field-0.0 Read (g.R.Source.has_failed c.args.reader.now) (g.R.Source.has_failed c.take_intervals.new.reader) c.from_residual-in_err-taken.ensures.1
    (since_earlier (g.R.Source.has_failed c.take_intervals.new.reader) (g.R.Source.has_failed c.skip.new.reader) (g.R.Source.has_failed c.args.reader.now) c.in_err-taken.ensures.reads (kept_by (g.R.Source.has_failed c.skip.new.reader ≡ g.R.Source.has_failed c.args.reader.now) _ Read c.in_ok-skip.ensures.stays)) newly

pub returns-in_err-taken-clause-writer_failed : goal.returns-in_err-taken-clause-writer_failed
returns-in_err-taken-clause-writer_failed g c =
    λ newly.
    told_by c.from_residual-in_err-taken.result c.in_err-taken.field-0.0 Write (g.W.Sink.has_failed c.args.writer.now) (g.W.Sink.has_failed c.take_intervals.new.writer) c.from_residual-in_err-taken.ensures.1
    c.in_err-taken.ensures.writes newly

pub returns-then-taken-eq0-clause-reader_failed : goal.returns-then-taken-eq0-clause-reader_failed
returns-then-taken-eq0-clause-reader_failed g c =
    λ newly. absurd (not_newly (g.R.Source.has_failed c.args.reader.now) (g.R.Source.has_failed c.take_intervals.new.reader) (kept_by (g.R.Source.has_failed c.take_intervals.new.reader ≡ g.R.Source.has_failed c.skip.new.reader) _ Read c.in_ok-taken.ensures.reads ∙ kept_by (g.R.Source.has_failed c.skip.new.reader ≡ g.R.Source.has_failed c.args.reader.now) _ Read c.in_ok-skip.ensures.stays) newly)

pub returns-then-taken-eq0-clause-writer_failed : goal.returns-then-taken-eq0-clause-writer_failed
returns-then-taken-eq0-clause-writer_failed g c =
    λ newly. absurd (not_newly (g.W.Sink.has_failed c.args.writer.now) (g.W.Sink.has_failed c.take_intervals.new.writer) (kept_by (g.W.Sink.has_failed c.take_intervals.new.writer ≡ g.W.Sink.has_failed c.args.writer.now) _ Write c.in_ok-taken.ensures.writes) newly)

pub returns-in_err-finish-clause-reader_failed : goal.returns-in_err-finish-clause-reader_failed
returns-in_err-finish-clause-reader_failed g c =
    λ newly. absurd (not_newly (g.R.Source.has_failed c.args.reader.now) (g.R.Source.has_failed c.take_intervals.new.reader) (kept_by (g.R.Source.has_failed c.take_intervals.new.reader ≡ g.R.Source.has_failed c.skip.new.reader) _ Read c.in_ok-taken.ensures.reads ∙ kept_by (g.R.Source.has_failed c.skip.new.reader ≡ g.R.Source.has_failed c.args.reader.now) _ Read c.in_ok-skip.ensures.stays) newly)

pub returns-in_err-finish-clause-writer_failed : goal.returns-in_err-finish-clause-writer_failed
returns-in_err-finish-clause-writer_failed g c =
    λ newly. absurd (not_newly (g.W.Sink.has_failed c.args.writer.now) (g.W.Sink.has_failed c.take_intervals.new.writer) (kept_by (g.W.Sink.has_failed c.take_intervals.new.writer ≡ g.W.Sink.has_failed c.args.writer.now) _ Write c.in_ok-taken.ensures.writes) newly)

pub returns-in_err-write-clause-reader_failed : goal.returns-in_err-write-clause-reader_failed
returns-in_err-write-clause-reader_failed g c =
    λ newly. absurd (not_newly (g.R.Source.has_failed c.args.reader.now) (g.R.Source.has_failed c.take_intervals.new.reader) (kept_by (g.R.Source.has_failed c.take_intervals.new.reader ≡ g.R.Source.has_failed c.skip.new.reader) _ Read c.in_ok-taken.ensures.reads ∙ kept_by (g.R.Source.has_failed c.skip.new.reader ≡ g.R.Source.has_failed c.args.reader.now) _ Read c.in_ok-skip.ensures.stays) newly)

pub returns-in_err-write-clause-writer_failed : goal.returns-in_err-write-clause-writer_failed
returns-in_err-write-clause-writer_failed g c =
    λ newly. is_error c.from_residual-in_err-write.result Write c.from_residual-in_err-write.ensures.1

pub returns-clause-reader_failed : goal.returns-clause-reader_failed
returns-clause-reader_failed g c =
    λ newly. absurd (not_newly (g.R.Source.has_failed c.args.reader.now) (g.R.Source.has_failed c.take_intervals.new.reader) (kept_by (g.R.Source.has_failed c.take_intervals.new.reader ≡ g.R.Source.has_failed c.skip.new.reader) _ Read c.in_ok-taken.ensures.reads ∙ kept_by (g.R.Source.has_failed c.skip.new.reader ≡ g.R.Source.has_failed c.args.reader.now) _ Read c.in_ok-skip.ensures.stays) newly)

pub returns-clause-writer_failed : goal.returns-clause-writer_failed
returns-clause-writer_failed g c =
    λ newly. absurd (not_newly (g.W.Sink.has_failed c.args.writer.now) (g.W.Sink.has_failed c.write.new.writer) (c.in_ok-write.ensures.stays ∙ kept_by (g.W.Sink.has_failed c.take_intervals.new.writer ≡ g.W.Sink.has_failed c.args.writer.now) _ Write c.in_ok-taken.ensures.writes) newly)

pub finish-requires : goal.finish-requires
finish-requires g c = steps_fit c.take_intervals.new.progress.draft c.in_ok-taken.ensures.short
