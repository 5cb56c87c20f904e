use Rattle.std.proofs.Common.{◌+◌, ◌-◌, ◌/◌, vec_len, arith}
use Rattle.vm_pages.proofs.WordLemmas.{marked-insert_grown}
use Rattle.vm_pages.proofs.words.mark.Goals as goal

pub returns-clause-after : goal.returns-clause-after
returns-clause-after c = λ size.
    rw c.reach.ensures.words (marked-insert_grown c.args.words.now.items size c.args.page (c.args.page / 64 + 1 - vec_len c.args.words.now) _ (omega (arith, c.args.words.now.ok.0)) (rw c.reach.ensures.words at c.index_mut.ensures.value))
