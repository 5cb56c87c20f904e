use Rattle.std.proofs.Common.{◌≡◌, ◌∙◌, inr, List, [], ap, refl, subst, sym}
use Rattle.std.proofs.lemmas.Result.{IfOk-from_err}
use Rattle.vm_import.specs.declared.access.Access.{Access}
use Rattle.vm_import.specs.Reading.{left, length_in_all}
use Rattle.vm_import.specs.declared.outcome.ImportError.TheVariants.{Read}
use Rattle.vm_import.specs.Drafts.{DraftView, with_steps}
use Rattle.vm_import.specs.Failing.{FailsBehind}
use Rattle.vm_import.specs.Progress.{IsReady, IsUnderWay}
use Rattle.vm_import.specs.Settings.{settings_of}
use Rattle.vm_import.specs.Steps.{idle_steps, steps_of}
use Rattle.vm_import.proofs.BackLemmas.{taken-holds, taken-none, untaken-holds, untaken-none, went-back}
use Rattle.vm_import.proofs.FailedLemmas.{kept_by, passes_on}
use Rattle.vm_import.proofs.ReadLemmas.{ends-untaken, idle-short, passed-on}
use Rattle.vm_import.proofs.ReadyLemmas.{ready-way}
use Rattle.vm_import.proofs.interval.read_interval.Goals as goal

pub read_accesses-requires-clause-short : goal.read_accesses-requires-clause-short
read_accesses-requires-clause-short g c =
    idle-short c.args.progress.now.draft c.push_idle.new.self c.args.interval.idle c.in_ok-push_idle.ensures c.requires.steps c.requires.idle
    c.requires.written

pub returns-in_err-end-clause-failed : goal.returns-in_err-end-clause-failed
returns-in_err-end-clause-failed g c =
    passed-on c.from_residual-in_err-end.result c.in_err-end.field-0.0
    (λ error. (before : List Access)
    → IsReady (settings_of c.args.settings.now) before c.args.interval c.args.progress.now.set c.args.progress.now.draft
    → FailsBehind (settings_of c.args.settings.now) before (left c.args.log.now (g.R.Source.remaining c.args.reader.now))
    (length_in_all c.args.log.now (g.R.Source.remaining c.args.reader.now)) (g.R.Source.has_failed c.read_accesses.new.reader) error)
    (λ before ready.
    c.in_err-end.ensures.failed before
    (subst (IsUnderWay (settings_of c.args.settings.now) before c.args.interval.number [] c.args.progress.now.set)
    (sym c.in_ok-push_idle.ensures)
    (ready-way (settings_of c.args.settings.now) before c.args.interval c.args.progress.now.set c.args.progress.now.draft
    c.requires.none ready)))
    c.from_residual-in_err-end.ensures.1

pub returns-then-not-is_taken-clause-ends : goal.returns-then-not-is_taken-clause-ends
returns-then-not-is_taken-clause-ends g c = λ before ready.
    ends-untaken (settings_of c.args.settings.now) before c.args.interval.number _ c.in_ok-end.end _ c.read_accesses.new.progress.set
    c.read_accesses.new.progress.set c.read_accesses.new.progress.draft c.go_back.new.self (sym c.if-not-is_taken.ensures)
    (c.in_ok-end.ensures.ends before
    (subst (IsUnderWay (settings_of c.args.settings.now) before c.args.interval.number [] c.args.progress.now.set)
    (sym c.in_ok-push_idle.ensures)
    (ready-way (settings_of c.args.settings.now) before c.args.interval c.args.progress.now.set c.args.progress.now.draft
    c.requires.none ready)))

pub returns-else-not-is_taken-clause-ends : goal.returns-else-not-is_taken-clause-ends
returns-else-not-is_taken-clause-ends g c = λ before ready.
    c.in_ok-end.ensures.ends before
    (subst (IsUnderWay (settings_of c.args.settings.now) before c.args.interval.number [] c.args.progress.now.set)
    (sym c.in_ok-push_idle.ensures)
    (ready-way (settings_of c.args.settings.now) before c.args.interval c.args.progress.now.set c.args.progress.now.draft
    c.requires.none ready))

pub returns-in_err-push_idle-clause-ends : goal.returns-in_err-push_idle-clause-ends
returns-in_err-push_idle-clause-ends g c =
    IfOk-from_err c.from_residual.result _ c.from_residual.ensures.0

pub returns-in_err-push_idle-clause-fits : goal.returns-in_err-push_idle-clause-fits
returns-in_err-push_idle-clause-fits g c =
    IfOk-from_err c.from_residual.result _ c.from_residual.ensures.0

pub returns-in_err-push_idle-clause-grows : goal.returns-in_err-push_idle-clause-grows
returns-in_err-push_idle-clause-grows g c =
    IfOk-from_err c.from_residual.result _ c.from_residual.ensures.0

pub returns-in_err-push_idle-clause-back : goal.returns-in_err-push_idle-clause-back
returns-in_err-push_idle-clause-back g c =
    IfOk-from_err c.from_residual.result _ c.from_residual.ensures.0

pub returns-in_err-push_idle-clause-length : goal.returns-in_err-push_idle-clause-length
returns-in_err-push_idle-clause-length g c =
    IfOk-from_err c.from_residual.result _ c.from_residual.ensures.0

pub returns-in_err-end-clause-ends : goal.returns-in_err-end-clause-ends
returns-in_err-end-clause-ends g c =
    IfOk-from_err c.from_residual-in_err-end.result _ c.from_residual-in_err-end.ensures.0

pub returns-in_err-end-clause-fits : goal.returns-in_err-end-clause-fits
returns-in_err-end-clause-fits g c =
    IfOk-from_err c.from_residual-in_err-end.result _ c.from_residual-in_err-end.ensures.0

pub returns-in_err-end-clause-grows : goal.returns-in_err-end-clause-grows
returns-in_err-end-clause-grows g c =
    IfOk-from_err c.from_residual-in_err-end.result _ c.from_residual-in_err-end.ensures.0

pub returns-in_err-end-clause-back : goal.returns-in_err-end-clause-back
returns-in_err-end-clause-back g c =
    IfOk-from_err c.from_residual-in_err-end.result _ c.from_residual-in_err-end.ensures.0

pub returns-in_err-end-clause-length : goal.returns-in_err-end-clause-length
returns-in_err-end-clause-length g c =
    IfOk-from_err c.from_residual-in_err-end.result _ c.from_residual-in_err-end.ensures.0

pub returns-in_err-push_idle-clause-stays : goal.returns-in_err-push_idle-clause-stays
returns-in_err-push_idle-clause-stays g c =
    inr refl

pub returns-in_err-end-clause-stays : goal.returns-in_err-end-clause-stays
returns-in_err-end-clause-stays g c =
    passes_on (g.R.Source.has_failed c.read_accesses.new.reader ≡ g.R.Source.has_failed c.args.reader.now) c.from_residual-in_err-end.result c.in_err-end.field-0.0 Read c.from_residual-in_err-end.ensures.1 c.in_err-end.ensures.stays

pub returns-in_err-end-clause-pages : goal.returns-in_err-end-clause-pages
returns-in_err-end-clause-pages g c =
    c.in_err-end.ensures.pages

pub returns-then-not-is_taken-clause-pages : goal.returns-then-not-is_taken-clause-pages
returns-then-not-is_taken-clause-pages g c =
    c.in_ok-end.ensures.pages

pub returns-then-not-is_taken-clause-length : goal.returns-then-not-is_taken-clause-length
returns-then-not-is_taken-clause-length g c =
    c.in_ok-end.ensures.length

pub returns-then-not-is_taken-clause-stays : goal.returns-then-not-is_taken-clause-stays
returns-then-not-is_taken-clause-stays g c =
    inr (kept_by (g.R.Source.has_failed c.read_accesses.new.reader ≡ g.R.Source.has_failed c.args.reader.now) _ Read c.in_ok-end.ensures.stays)

pub returns-else-not-is_taken-clause-pages : goal.returns-else-not-is_taken-clause-pages
returns-else-not-is_taken-clause-pages g c =
    c.in_ok-end.ensures.pages

pub returns-else-not-is_taken-clause-length : goal.returns-else-not-is_taken-clause-length
returns-else-not-is_taken-clause-length g c =
    c.in_ok-end.ensures.length

pub returns-else-not-is_taken-clause-stays : goal.returns-else-not-is_taken-clause-stays
returns-else-not-is_taken-clause-stays g c =
    inr (kept_by (g.R.Source.has_failed c.read_accesses.new.reader ≡ g.R.Source.has_failed c.args.reader.now) _ Read c.in_ok-end.ensures.stays)

pub returns-then-not-is_taken-clause-fits : goal.returns-then-not-is_taken-clause-fits
returns-then-not-is_taken-clause-fits g c =
    taken-none c.in_ok-end.end _ (sym c.if-not-is_taken.ensures)

pub returns-then-not-is_taken-clause-grows : goal.returns-then-not-is_taken-clause-grows
returns-then-not-is_taken-clause-grows g c =
    taken-none c.in_ok-end.end _ (sym c.if-not-is_taken.ensures)

pub returns-then-not-is_taken-clause-back : goal.returns-then-not-is_taken-clause-back
returns-then-not-is_taken-clause-back g c =
    untaken-holds c.in_ok-end.end _
    (went-back c.args.progress.now.draft c.push_idle.new.self c.read_accesses.new.progress.draft c.go_back.new.self
    (idle_steps c.args.interval.idle) (steps_of c.args.interval.number c.read_accesses.new.progress.set.kept)
    c.waiting-waiting.result c.steps-steps.result c.in_ok-push_idle.ensures c.in_ok-end.ensures.grows c.waiting-waiting.ensures c.steps-steps.ensures
    c.go_back.ensures)

pub returns-else-not-is_taken-clause-fits : goal.returns-else-not-is_taken-clause-fits
returns-else-not-is_taken-clause-fits g c =
    c.in_ok-end.ensures.fits

pub returns-else-not-is_taken-clause-grows : goal.returns-else-not-is_taken-clause-grows
returns-else-not-is_taken-clause-grows g c =
    taken-holds c.in_ok-end.end _
    (c.in_ok-end.ensures.grows
    ∙ ap (λ (d : DraftView). with_steps d (steps_of c.args.interval.number c.read_accesses.new.progress.set.kept)) c.in_ok-push_idle.ensures)

pub returns-else-not-is_taken-clause-back : goal.returns-else-not-is_taken-clause-back
returns-else-not-is_taken-clause-back g c =
    untaken-none c.in_ok-end.end _ (sym c.if-not-is_taken.ensures)
