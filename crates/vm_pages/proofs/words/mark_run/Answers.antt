use Rattle.std.proofs.Common.{◌+◌, ◌-◌, ◌/◌, get_or, vec_len, arith}
use Rattle.vm_pages.proofs.RunLemmas.{grown_in}
use Rattle.vm_pages.proofs.words.mark_run.Goals as goal

pub returns-clause-after : goal.returns-clause-after
returns-clause-after c = λ size.
    let run = c.with_run-run.ensures in
    let word = get_or c.args.pages.now 0 0 / 64 in
    let came = grown_in c.args.words.now.items (word + 1 - vec_len c.args.words.now) word _ _ _ _ (omega (arith, c.args.words.now.ok.0)) (rw c.reach.ensures.words at c.index.ensures) run.same_word run.marks run.gained in
    rw c.reach.ensures.words (came.after size)

pub returns-clause-gained : goal.returns-clause-gained
returns-clause-gained c = λ size in_range.
    let run = c.with_run-run.ensures in
    let word = get_or c.args.pages.now 0 0 / 64 in
    let came = grown_in c.args.words.now.items (word + 1 - vec_len c.args.words.now) word _ _ _ _ (omega (arith, c.args.words.now.ok.0)) (rw c.reach.ensures.words at c.index.ensures) run.same_word run.marks run.gained in
    rw c.reach.ensures.words (came.gained size in_range)
