use Rattle.std.proofs.Common.{◌∙◌, ℕ, ap}
use Rattle.vm_drawing.specs.declared.spread.Spread.{Spread}
use Rattle.vm_sweep.specs.Medians.{number_at}
use Rattle.vm_sweep.proofs.median.ends.Goals as goal

abbrev spread : (least greatest : ℕ) → Spread
spread least greatest = record { least = least; greatest = greatest }

pub returns : goal.returns
returns c =
    let greatest = c.number_at-2.ensures ∙ ap (number_at c.args.ordered.now) c.last_place.ensures in
    (λ i. spread (c.number_at.ensures i) (greatest i))
