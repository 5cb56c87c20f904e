use Rattle.std.proofs.Common.{◌∙◌, ap}
use Rattle.vm_drawing.specs.Scale.{parts_for}
use Rattle.vm_drawing.proofs.scale.Scale.to.Goals as goal

pub returns-clause-value : goal.returns-clause-value
returns-clause-value c =
    let step = c.step_for-step.ensures.value in
    let parts = c.parts_for.ensures.value ∙ ap (λ s. parts_for s c.args.greatest) step in
    λ i. record { height = 200; step = step i; parts = parts i }
