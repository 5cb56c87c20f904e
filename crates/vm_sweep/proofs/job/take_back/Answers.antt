use Rattle.std.proofs.Common.{◌≡◌, ◌+◌, ◌%◌, ◌^◌, ℕ, subst}
use Rattle.vm_sweep.proofs.JobLemmas.{taken-back}
use Rattle.vm_sweep.proofs.job.take_back.Goals as goal

pub returns : goal.returns
returns c = λ before was.
    taken-back c.law_seeds.ensures.sum c.args.variant.now.changes c.negated.result c.args.config.now c.add_to_seeds.new.config before
    (subst (λ (n : ℕ). (c.negated.result + n) % 2 ^ 64 ≡ 0) c.added_of.ensures c.negated.ensures) c.add_to_seeds.ensures was
