use Rattle.std.proofs.Common.{◌≡◌, ◌∙◌, refl, subst, sym}
use Rattle.vm_config.specs.declared.config.Config.{Config}
use Rattle.vm_sweep.specs.Combinations.{varied}
use Rattle.vm_sweep.specs.Orders.{IsVaried, Shape, shape_of}
use Rattle.vm_sweep.specs.Outcomes.{Tells}
use Rattle.vm_sweep.proofs.JobLemmas.{taken, varied-next}
use Rattle.vm_sweep.proofs.job.run_in.Goals as goal

pub returns-in-Ok-clause-told : goal.returns-in-Ok-clause-told
unfolding varied
returns-in-Ok-clause-told c = λ base can.
    let variant = c.args.variant.now in
    let there = taken (IsVaried base (shape_of variant.changes)) _ _ c.in_ok-taken.taken c.take.ensures.value c.in_ok-taken.was can.config in
    subst (λ (config : Config). Tells c.args.detail variant config c.in-Ok.outcome)
    (c.in_ok-config.ensures ∙ there variant.combination variant.changes refl) c.in-Ok.ensures.told

pub returns-in-Ok-clause-kept : goal.returns-in-Ok-clause-kept
unfolding varied
returns-in-Ok-clause-kept c = λ base other alike can there.
    let variant = c.args.variant.now in
    let same : alike ≡ shape_of variant.changes = sym there.shape ∙ can.shape in
    let before = taken (IsVaried other alike) _ _ c.in_ok-taken.taken c.take.ensures.value c.in_ok-taken.was there.config in
    subst (λ (shape : Shape). IsVaried other shape c.take_back.new.config) (sym same)
    (varied-next c.law_runs.ensures.next other c.in_ok-taken.taken c.take_back.new.config variant.combination variant.changes
    (c.take_back.ensures _ (c.in-Ok.ensures.back ∙ c.in_ok-config.ensures))
    (subst (λ (shape : Shape). IsVaried other shape c.in_ok-taken.taken) same before))
