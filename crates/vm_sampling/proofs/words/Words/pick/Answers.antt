use Rattle.std.proofs.Common.{ℕ, ◌*◌, ◌/◌, ap, ◌∙◌}
use Rattle.vm_sampling.specs.Words.{pick}
use Rattle.vm_sampling.proofs.words.Words.pick.Goals as goal

pub returns-clause-value : goal.returns-clause-value
unfolding pick
returns-clause-value c =
    (λ i. c.from-word.ensures i * c.from.ensures i / 4294967296) ∙ ap (λ (w : ℕ). w * c.args.count / 4294967296) c.next_word.ensures.value
