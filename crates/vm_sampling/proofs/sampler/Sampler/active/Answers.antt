use Rattle.std.proofs.Common.{◌≡◌, ℕ, ◌+◌, ◌*◌, ◌/◌, max, ap, ◌∙◌, arith}
use Rattle.vm_sampling.specs.SamplerFields.{sampling}
use Rattle.vm_sampling.specs.Sampling.{active, touched_draws, touched_fraction, whole}
use Rattle.vm_sampling.proofs.sampler.Sampler.active.Goals as goal

pub returns-clause-value : goal.returns-clause-value
returns-clause-value c =
    let inside = c.self.inside in
    let s = sampling inside in
    let fraction : c.fraction-fraction.result ≡ touched_fraction s =
    c.fraction-fraction.ensures.value
    ∙ ap (λ (hits : ℕ). hits * whole / c.len.result) c.self.invariant.samples.counted_hits
    ∙ ap (λ k. touched_draws s * whole / k) c.len.ensures in
    c.max-2.ensures ∙ (λ i. max (c.max.ensures i) ((inside.fast + fraction i) / 2)) ∙ ap active c.self.view_is

pub returns-clause-at_most_whole : goal.returns-clause-at_most_whole
returns-clause-at_most_whole c =
    let first = c.max.ensures in
    let second = c.max-2.ensures in
    omega (arith, c.self.invariant.slow, c.self.invariant.fast, c.fraction-fraction.ensures.at_most_whole)
