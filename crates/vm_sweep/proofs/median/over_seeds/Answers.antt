use Rattle.std.proofs.Common.{◌∙◌, ℕ, ap}
use Rattle.vm_drawing.specs.declared.spread.Spread.{Spread}
use Rattle.vm_sweep.specs.Medians.{ends, middle}
use Rattle.vm_sweep.specs.declared.median.OverSeeds.{OverSeeds}
use Rattle.vm_sweep.proofs.median.over_seeds.Goals as goal

abbrev told : (median : ℕ) → Spread → OverSeeds
told median spread = record { median = median; spread = spread }

pub returns : goal.returns
returns c =
    let median = c.middle.ensures ∙ ap middle (c.deref.ensures.value ∙ c.put_in_order.ensures) in
    let spread = c.ends.ensures ∙ ap ends (c.deref-2.ensures.value ∙ c.put_in_order.ensures) in
    (λ i. told (median i) (spread i))
