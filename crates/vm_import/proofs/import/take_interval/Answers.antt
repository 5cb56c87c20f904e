use Rattle.std.proofs.Common.{◌≡◌, ◌∙◌, List, length, ap, refl, subst, arith}
use Rattle.std.proofs.lemmas.Grind.{common_steps}
use Rattle.vm_import.specs.declared.touch.RankedTouch.{RankedTouch}
use Rattle.vm_import.specs.WorkingSets.{Begins, WorkingSetView}
use Rattle.vm_import.specs.Importing.{after_interval}
use Rattle.vm_import.specs.Settings.{settings_of}
use Rattle.vm_import.specs.Steps.{idle_behind}
use Rattle.vm_import.proofs.ReadyLemmas.{ready-next}
use Rattle.vm_import.proofs.import.take_interval.Goals as goal

pub returns-clause-ready : goal.returns-clause-ready
returns-clause-ready g c = λ before accesses way full.
    let is : c.if-page_count-gt0.progress.draft ≡ after_interval (length c.args.progress.now.set.pages) c.args.progress.now.draft =
    grind (arith, common_steps) in
    let same : c.if-page_count-gt0.progress.set ≡ c.args.progress.now.set = grind (arith, common_steps) in
    ready-next (settings_of c.args.settings.now) before accesses c.args.interval _ c.args.progress.now.set c.begin_interval.new.self
    c.args.progress.now.draft c.if-page_count-gt0.progress.draft c.args.settings.now.interval_in_range.0 full way
    (subst (λ (s : WorkingSetView). Begins s c.begin_interval.new.self) same c.begin_interval.ensures.begins)
    refl
    (c.idle_behind-idle.ensures.exact
    ∙ ap (λ (l : List RankedTouch). idle_behind c.args.settings.now.quantum (length l)) c.kept.ensures.kept)
    is
