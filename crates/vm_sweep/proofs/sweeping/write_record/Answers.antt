use Rattle.std.proofs.Common.{◌∙◌, ◌∷◌, [], ℕ, IfErr, List, ap, subst}
use Rattle.vm_sweep.specs.Combinations.{numbers_of, varied}
use Rattle.vm_sweep.specs.Outcomes.{Tells, rebalancing_in}
use Rattle.vm_sweep.specs.Written.{FailsWithin}
use Rattle.vm_sweep.proofs.WrittenLemmas.{told-none, told-numbers}
use Rattle.vm_tally.specs.Table.{record_text}
use Rattle.vm_sweep.proofs.sweeping.write_record.Goals as goal

pub returns-in_default-clause-failed : goal.returns-in_default-clause-failed
returns-in_default-clause-failed g c = (_, told-none _ _)

pub returns-in-InNumbers-clause-failed : goal.returns-in-InNumbers-clause-failed
returns-in-InNumbers-clause-failed g c =
    let done = c.args.done.now in
    let summary = c.in-InNumbers.summary in
    let config = varied done.variant done.base in
    let from = c.rebalancing-rebalancing.ensures ∙ ap rebalancing_in c.detail.ensures in
    let told = told-numbers done.detail done.variant config summary (subst (Tells done.detail done.variant config) c.in-InNumbers.is c.in-Some.ensures) in
    subst (λ (row : List ℕ). IfErr c.write_summary.result (FailsWithin (g.W.Sink.contents c.args.writer.now) (g.W.Sink.contents c.write_summary.new.writer) (row ∷ [])))
    ((λ i. record_text (from i) (c.variant.ensures i).combination (numbers_of (c.variant.ensures i)) summary) ∙ told)
    c.write_summary.ensures.failed
