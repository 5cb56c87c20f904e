use Rattle.std.proofs.Common.{ap, ◌∙◌}
use Rattle.vm_variants.specs.Changes.{Variation}
use Rattle.vm_variants.proofs.ValueLemmas.{minimums-allowed, shares-allowed}
use Rattle.vm_variants.proofs.changes.Changes.apply.Goals as goal

pub put_values-requires : goal.put_values-requires
put_values-requires c =
    minimums-allowed c.args.self.now c.self.inside.percent c.deref.result.now c.args.config.now c.check.new.config c.set_percent.new.config
    c.in_ok-check.ensures.refusal c.check.ensures.unchanged c.set_percent.ensures
    (c.deref.ensures.value ∙ ap (λ (v : Variation). v.minimums) c.self.view_is)

pub put_values-requires-2 : goal.put_values-requires-2
put_values-requires-2 c =
    shares-allowed c.args.self.now c.self.inside.percent c.deref.result.now c.deref-2.result.now c.args.config.now c.check.new.config
    c.set_percent.new.config c.put_values.new.config
    c.in_ok-check.ensures.refusal c.check.ensures.unchanged c.set_percent.ensures c.put_values.ensures
    (c.deref-2.ensures.value ∙ ap (λ (v : Variation). v.shares) c.self.view_is)
