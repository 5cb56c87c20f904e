use Rattle.std.proofs.Common.{◌≡◌, ◌∙◌, ℕ, List, ◌+◌, ◌*◌, ◌≤◌, None, length, ap, refl, subst, sym, arith}
use Rattle.vm_import.specs.Reading.{left}
use Rattle.vm_import.specs.Drafts.{DraftView, with_steps}
use Rattle.vm_import.specs.Importing.{AreTaken, IsStopped}
use Rattle.vm_import.specs.Progress.{EndsSo, IfTaken, limit_of}
use Rattle.vm_import.specs.Settings.{settings_of}
use Rattle.vm_import.specs.Steps.{idle_steps, steps_of}
use Rattle.vm_import.specs.declared.interval.IntervalEnd.{IntervalEnd}
use Rattle.vm_import.specs.declared.interval.IntervalEnd.TheVariants.{Full}
use Rattle.vm_import.proofs.BeginLemmas.{begun, no_pages, none_kept}
use Rattle.vm_import.proofs.ComposedLemmas.{Stays-refl, Stays-then}
use Rattle.vm_import.proofs.CountLemmas.{after-none, after-steps, after-written, few-intervals, steps-more, written-more}
use Rattle.vm_import.specs.declared.outcome.ImportError.TheVariants.{Read}
use Rattle.vm_import.proofs.FailedLemmas.{kept_by}
use Rattle.vm_import.proofs.ReadLemmas.{within}
use Rattle.vm_import.proofs.TakenLemmas.{full, if-taken, on-err, stopped-reading, stopped-writing, taken-at, taken-next}
use Rattle.vm_import.proofs.import.take_intervals.Goals as goal

pub loop-end-init : goal.loop-end-init
loop-end-init g c =
    let steps : c.args.progress.now.draft.steps ≡ 0 = ap (λ (d : DraftView). d.steps) c.requires.draft in
    let written : c.args.progress.now.draft.written ≡ 0 = ap (λ (d : DraftView). d.written) c.requires.draft in
    record {
      taken = begun (settings_of c.args.settings.now) c.args.settings.now.interval_in_range.0 (left c.args.log.now (g.R.Source.remaining c.args.reader.now)) (g.W.Sink.contents c.args.writer.now) c.args.progress.now.set c.args.progress.now.draft c.requires.set c.requires.draft;
      pages = sym (no_pages c.args.progress.now.set c.requires.set);
      few = omega arith;
      none = none_kept c.args.progress.now.set c.requires.set;
      steps = omega arith;
      idle = omega arith;
      written = omega arith;
      silent = λ none. written;
      first = omega arith;
      last = omega arith;
      filled = omega arith;
      length = Stays-refl _;
      reads = refl;
      writes = refl;
    }

pub returns-in_err-end-clause-stopped : goal.returns-in_err-end-clause-stopped
returns-in_err-end-clause-stopped g c =
    on-err c.from_residual.result (IsStopped (settings_of c.args.settings.now) (left c.args.log.now (g.R.Source.remaining c.args.reader.now)) (g.W.Sink.contents c.args.writer.now) (g.W.Sink.contents c.loop-end.writer))
    (stopped-reading (settings_of c.args.settings.now) c.args.settings.now.interval_in_range.0 (left c.args.log.now (g.R.Source.remaining c.args.reader.now)) (g.W.Sink.contents c.args.writer.now) (g.W.Sink.contents c.loop-end.writer) c.loop-end.interval c.loop-end.size c.loop-end.progress.set c.loop-end.progress.draft (left c.loop-end.log (g.R.Source.remaining c.loop-end.reader)) c.loop-end.invariant.taken)

pub returns-then-not-is_full-clause-taken : goal.returns-then-not-is_full-clause-taken
returns-then-not-is_full-clause-taken g c =
    taken-at (settings_of c.args.settings.now) c.args.settings.now.interval_in_range.0 (left c.args.log.now (g.R.Source.remaining c.args.reader.now)) (g.W.Sink.contents c.args.writer.now) (g.W.Sink.contents c.loop-end.writer) c.loop-end.interval c.loop-end.size c.loop-end.progress.set c.loop-end.progress.draft (left c.loop-end.log (g.R.Source.remaining c.loop-end.reader)) c.loop-end.invariant.taken c.in_ok-end.end (left c.read_interval.new.log (g.R.Source.remaining c.read_interval.new.reader)) c.read_interval.new.progress.set c.read_interval.new.progress.draft c.taken_at.result (sym c.if-not-is_full.ensures)
    (c.in_ok-end.ensures.ends c.loop-end.invariant.taken.before c.loop-end.invariant.taken.ready)
    (if-taken c.in_ok-end.end _ (c.read_interval.new.progress.draft.written ≡ c.loop-end.progress.draft.written)
    (written-more c.loop-end.progress.draft c.read_interval.new.progress.draft c.loop-end.interval.idle c.loop-end.interval.number c.read_interval.new.progress.set.kept) c.in_ok-end.ensures.grows)
    c.in_ok-end.ensures.back
    (λ is. c.taken_at.ensures.last is
    ∙ ap (λ (n : ℕ). record { imported = record { intervals = c.loop-end.interval.number; limit = None }; size = n })
    c.page_count-pages.ensures)
    c.taken_at.ensures.absent c.taken_at.ensures.passes

pub returns-in_err-interval-clause-stopped : goal.returns-in_err-interval-clause-stopped
returns-in_err-interval-clause-stopped g c =
    let is_full : c.in_ok-end.end ≡ Full = full c.in_ok-end.end (sym c.if-not-is_full.ensures) in
    let grows : c.read_interval.new.progress.draft
    ≡ with_steps (with_steps c.loop-end.progress.draft (idle_steps c.loop-end.interval.idle))
    (steps_of c.loop-end.interval.number c.read_interval.new.progress.set.kept) =
    subst (λ (end : IntervalEnd). IfTaken end (c.read_interval.new.progress.draft
    ≡ with_steps (with_steps c.loop-end.progress.draft (idle_steps c.loop-end.interval.idle))
    (steps_of c.loop-end.interval.number c.read_interval.new.progress.set.kept))) is_full c.in_ok-end.ensures.grows in
    let ends : EndsSo (settings_of c.args.settings.now) c.loop-end.invariant.taken.before c.loop-end.interval.number (left c.loop-end.log (g.R.Source.remaining c.loop-end.reader)) Full (left c.read_interval.new.log (g.R.Source.remaining c.read_interval.new.reader)) c.read_interval.new.progress.set c.read_interval.new.progress.draft =
    subst (λ (end : IntervalEnd). EndsSo (settings_of c.args.settings.now) c.loop-end.invariant.taken.before c.loop-end.interval.number (left c.loop-end.log (g.R.Source.remaining c.loop-end.reader)) end (left c.read_interval.new.log (g.R.Source.remaining c.read_interval.new.reader)) c.read_interval.new.progress.set c.read_interval.new.progress.draft)
    is_full (c.in_ok-end.ensures.ends c.loop-end.invariant.taken.before c.loop-end.invariant.taken.ready) in
    on-err c.from_residual-in_err-interval.result (IsStopped (settings_of c.args.settings.now) (left c.args.log.now (g.R.Source.remaining c.args.reader.now)) (g.W.Sink.contents c.args.writer.now) (g.W.Sink.contents c.take_interval.new.writer))
    (stopped-writing (settings_of c.args.settings.now) c.args.settings.now.interval_in_range.0 (left c.args.log.now (g.R.Source.remaining c.args.reader.now)) (g.W.Sink.contents c.args.writer.now) (g.W.Sink.contents c.loop-end.writer) c.loop-end.interval c.loop-end.size c.loop-end.progress.set c.loop-end.progress.draft (left c.loop-end.log (g.R.Source.remaining c.loop-end.reader)) c.loop-end.invariant.taken (left c.read_interval.new.log (g.R.Source.remaining c.read_interval.new.reader)) c.read_interval.new.progress.set c.read_interval.new.progress.draft
    (written-more c.loop-end.progress.draft c.read_interval.new.progress.draft c.loop-end.interval.idle c.loop-end.interval.number c.read_interval.new.progress.set.kept grows)
    (g.W.Sink.contents c.take_interval.new.writer) ends c.in_err-interval.ensures.front)

pub loop-end-preserved : goal.loop-end-preserved
loop-end-preserved g c =
    let is_full : c.in_ok-end.end ≡ Full = full c.in_ok-end.end (sym c.if-not-is_full.ensures) in
    let grows : c.read_interval.new.progress.draft
    ≡ with_steps (with_steps c.loop-end.progress.draft (idle_steps c.loop-end.interval.idle))
    (steps_of c.loop-end.interval.number c.read_interval.new.progress.set.kept) =
    subst (λ (end : IntervalEnd). IfTaken end (c.read_interval.new.progress.draft
    ≡ with_steps (with_steps c.loop-end.progress.draft (idle_steps c.loop-end.interval.idle))
    (steps_of c.loop-end.interval.number c.read_interval.new.progress.set.kept))) is_full c.in_ok-end.ensures.grows in
    let ends : EndsSo (settings_of c.args.settings.now) c.loop-end.invariant.taken.before c.loop-end.interval.number (left c.loop-end.log (g.R.Source.remaining c.loop-end.reader)) Full (left c.read_interval.new.log (g.R.Source.remaining c.read_interval.new.reader)) c.read_interval.new.progress.set c.read_interval.new.progress.draft =
    subst (λ (end : IntervalEnd). EndsSo (settings_of c.args.settings.now) c.loop-end.invariant.taken.before c.loop-end.interval.number (left c.loop-end.log (g.R.Source.remaining c.loop-end.reader)) end (left c.read_interval.new.log (g.R.Source.remaining c.read_interval.new.reader)) c.read_interval.new.progress.set c.read_interval.new.progress.draft)
    is_full (c.in_ok-end.ensures.ends c.loop-end.invariant.taken.before c.loop-end.invariant.taken.ready) in
    let none : limit_of (settings_of c.args.settings.now) (length c.read_interval.new.progress.set.pages) c.read_interval.new.progress.draft ≡ None =
    subst (λ (end : IntervalEnd). IfTaken end (limit_of (settings_of c.args.settings.now) (length c.read_interval.new.progress.set.pages) c.read_interval.new.progress.draft ≡ None)) is_full c.in_ok-end.ensures.fits in
    let small = within (settings_of c.args.settings.now) (length c.read_interval.new.progress.set.pages) c.read_interval.new.progress.draft c.args.settings.now.quantum_in_range.0 none in
    let written : c.read_interval.new.progress.draft.written ≡ c.loop-end.progress.draft.written =
    written-more c.loop-end.progress.draft c.read_interval.new.progress.draft c.loop-end.interval.idle c.loop-end.interval.number c.read_interval.new.progress.set.kept grows in
    let more : c.read_interval.new.progress.draft.steps ≡ c.loop-end.progress.draft.steps + c.loop-end.interval.idle + length c.read_interval.new.progress.set.kept =
    steps-more c.loop-end.progress.draft c.read_interval.new.progress.draft c.loop-end.interval.idle c.loop-end.interval.number c.read_interval.new.progress.set.kept grows in
    let same : c.take_interval.new.progress.draft.steps ≡ c.read_interval.new.progress.draft.steps =
    ap (λ (d : DraftView). d.steps) c.in_ok-interval.ensures.draft ∙ after-steps c.read_interval.new.progress.draft (length c.read_interval.new.progress.set.pages) in
    let pages = c.page_count-pages.ensures in
    let few_steps = small.steps in
    let few_pages = small.pages_few in
    let few_epochs = small.epochs in
    let few_bytes = small.bytes in
    let most = c.args.settings.now.steps_in_range.1 in
    let number = c.in_ok-interval.ensures.number in
    let idle = c.in_ok-interval.ensures.filled in
    let before = c.loop-end.invariant.filled in
    let number_few : c.loop-end.interval.number ≤ 10001 =
    few-intervals c.loop-end.interval.number c.args.settings.now.quantum (c.loop-end.progress.draft.steps + c.loop-end.interval.idle) c.read_interval.new.progress.draft.steps
    c.args.settings.now.quantum_in_range.0 (omega arith) (omega arith) few_epochs in
    record {
      taken =
          subst (λ (n : ℕ). AreTaken (settings_of c.args.settings.now) (left c.args.log.now (g.R.Source.remaining c.args.reader.now)) (g.W.Sink.contents c.args.writer.now) (g.W.Sink.contents c.take_interval.new.writer) c.in_ok-interval.interval n
          c.take_interval.new.progress.set c.take_interval.new.progress.draft (left c.read_interval.new.log (g.R.Source.remaining c.read_interval.new.reader))) (sym pages)
          (taken-next (settings_of c.args.settings.now) c.args.settings.now.interval_in_range.0 (left c.args.log.now (g.R.Source.remaining c.args.reader.now)) (g.W.Sink.contents c.args.writer.now) (g.W.Sink.contents c.loop-end.writer) c.loop-end.interval c.loop-end.size c.loop-end.progress.set c.loop-end.progress.draft (left c.loop-end.log (g.R.Source.remaining c.loop-end.reader)) c.loop-end.invariant.taken (left c.read_interval.new.log (g.R.Source.remaining c.read_interval.new.reader)) c.read_interval.new.progress.set c.read_interval.new.progress.draft written (g.W.Sink.contents c.take_interval.new.writer)
          c.in_ok-interval.interval c.take_interval.new.progress.set c.take_interval.new.progress.draft ends
          c.in_ok-interval.ensures.ready c.in_ok-interval.ensures.draft c.in_ok-interval.ensures.written);
      pages = pages ∙ ap (λ (l : List ℕ). length l) (sym c.in_ok-interval.ensures.pages);
      few = omega arith;
      none = c.in_ok-interval.ensures.kept;
      steps = omega arith;
      idle = c.in_ok-interval.ensures.idle;
      written =
          let is : c.take_interval.new.progress.draft.written ≤ c.read_interval.new.progress.draft.written + length c.read_interval.new.progress.draft.text =
          subst (λ (d : DraftView). d.written ≤ c.read_interval.new.progress.draft.written + length c.read_interval.new.progress.draft.text) (sym c.in_ok-interval.ensures.draft)
          (after-written c.read_interval.new.progress.draft (length c.read_interval.new.progress.set.pages)) in
          omega arith;
      silent = λ untouched.
          let grown = c.in_ok-end.ensures.pages in
          let size = c.loop-end.invariant.pages in
          let earlier : c.loop-end.progress.draft.written ≡ 0 = c.loop-end.invariant.silent (omega arith) in
          ap (λ (d : DraftView). d.written) (c.in_ok-interval.ensures.draft ∙ after-none c.read_interval.new.progress.draft (length c.read_interval.new.progress.set.pages) (omega arith))
          ∙ written ∙ earlier;
      first = omega arith;
      last = omega arith;
      filled =
          let product : c.in_ok-interval.interval.number * c.args.settings.now.quantum
          ≡ (c.loop-end.interval.number + 1) * c.args.settings.now.quantum =
          ap (λ (n : ℕ). n * c.args.settings.now.quantum) number in
          omega arith;
      length = Stays-then _ _ _ c.loop-end.invariant.length c.in_ok-end.ensures.length;
      reads =
          kept_by (g.R.Source.has_failed c.read_interval.new.reader ≡ g.R.Source.has_failed c.loop-end.reader) _ Read c.in_ok-end.ensures.stays
          ∙ c.loop-end.invariant.reads;
      writes = c.in_ok-interval.ensures.stays ∙ c.loop-end.invariant.writes;
    }
