-- The size of a sampler, which no step changes.
use Rattle.std.proofs.Common.{◌≡◌, ◌∙◌, ℕ, zero, suc, ◌+◌, Bool, true, false, nat_eq, refl}
use Rattle.std.specs.Prelude.{if◌then◌else◌}
use Rattle.rand_pcg.specs.Lcg.{Lcg}
use Rattle.vm_sampling.specs.Sampling.{Sampling, next_period, stepped, words_after_step}
use Rattle.vm_sampling.specs.Idle.{sampler_after}

pub size_stepped : (s : Sampling) (g : Lcg) → (stepped s g).size ≡ s.size
size_stepped s g = go (nat_eq (s.steps + 1) s.period)
  where
    go : (b : Bool) → (if b then next_period s g else record s { steps = s.steps + 1 }).size ≡ s.size
    go true = refl
    go false = refl

pub size_idled : (steps : ℕ) (s : Sampling) (g : Lcg) → (sampler_after steps s g).size ≡ s.size
unfolding sampler_after
size_idled zero s g = refl
size_idled (suc steps) s g = size_idled steps (stepped s g) (words_after_step s g) ∙ size_stepped s g
