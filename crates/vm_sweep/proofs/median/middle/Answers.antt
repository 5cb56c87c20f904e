use Rattle.std.proofs.Common.{◌∙◌, ◌/◌, ℕ, ap}
use Rattle.vm_sweep.specs.Medians.{number_at}
use Rattle.vm_sweep.proofs.median.middle.Goals as goal

pub returns : goal.returns
returns c = c.number_at.ensures ∙ ap (λ (place : ℕ). number_at c.args.ordered.now (place / 2)) c.last_place.ensures
