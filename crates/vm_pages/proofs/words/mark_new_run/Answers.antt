use Rattle.std.proofs.Common.{◌≡◌, ◌+◌, ◌-◌, ◌/◌, length, take, get_or, vec_len, ap, arith}
use Rattle.std.proofs.lemmas.List.{length-take-le}
use Rattle.vm_pages.specs.Pages.{count}
use Rattle.vm_pages.proofs.RunLemmas.{grown_in, run_new, run_short}
use Rattle.vm_pages.proofs.WordLemmas.{marked-grown}
use Rattle.vm_pages.proofs.words.mark_new_run.Goals as goal

pub returns-then-gained-run-clause-after : goal.returns-then-gained-run-clause-after
returns-then-gained-run-clause-after c = λ size.
    rw c.reach.ensures.words (marked-grown c.args.words.now.items (get_or c.args.pages.now 0 0 / 64 + 1 - vec_len c.args.words.now) size)

pub returns-then-gained-run-clause-gained : goal.returns-then-gained-run-clause-gained
returns-then-gained-run-clause-gained c = λ size in_range.
    let same = ap count (marked-grown c.args.words.now.items (get_or c.args.pages.now 0 0 / 64 + 1 - vec_len c.args.words.now) size) in
    rw c.reach.ensures.words (omega (arith, same))

pub returns-then-gained-run-clause-not_new : goal.returns-then-gained-run-clause-not_new
returns-then-gained-run-clause-not_new c = λ size in_range none.
    let run = c.with_run-run.ensures in
    let word = get_or c.args.pages.now 0 0 / 64 in
    let came = grown_in c.args.words.now.items (word + 1 - vec_len c.args.words.now) word _ _ _ _ (omega (arith, c.args.words.now.ok.0)) (rw c.reach.ensures.words at c.index.ensures) run.same_word run.marks run.gained in
    run_short _ _ c.args.pages.now c.with_run-run.result.0 c.with_run-run.result.2 size came run.within c.if-gained-run.true in_range

pub returns-clause-after : goal.returns-clause-after
returns-clause-after c = λ size.
    let run = c.with_run-run.ensures in
    let word = get_or c.args.pages.now 0 0 / 64 in
    let came = grown_in c.args.words.now.items (word + 1 - vec_len c.args.words.now) word _ _ _ _ (omega (arith, c.args.words.now.ok.0)) (rw c.reach.ensures.words at c.index.ensures) run.same_word run.marks run.gained in
    rw c.reach.ensures.words (came.after size)

pub returns-clause-gained : goal.returns-clause-gained
returns-clause-gained c = λ size in_range.
    let run = c.with_run-run.ensures in
    let word = get_or c.args.pages.now 0 0 / 64 in
    let came = grown_in c.args.words.now.items (word + 1 - vec_len c.args.words.now) word _ _ _ _ (omega (arith, c.args.words.now.ok.0)) (rw c.reach.ensures.words at c.index.ensures) run.same_word run.marks run.gained in
    let long : length (take c.with_run-run.result.0 c.args.pages.now) ≡ c.with_run-run.result.0 = length-take-le c.with_run-run.result.0 c.args.pages.now run.within in
    rw c.reach.ensures.words (rw long at (run_new _ _ _ c.with_run-run.result.2 size came (omega (arith, long, c.if-gained-run.false)) in_range))
