use Rattle.std.proofs.Common.{sym, ◌∙◌, arith}
use Rattle.vm_pages.specs.Words.{marked}
use Rattle.vm_pages.proofs.ExtremeLemmas.{least_below-same, least_below-full}
use Rattle.vm_pages.proofs.WordLemmas.{length-marked}
use Rattle.vm_pages.proofs.page_set.list_block_up.Goals as goal

pub returns-then-len-most-clause-after : goal.returns-then-len-most-clause-after
returns-then-len-most-clause-after c =
    let invariant = c.loop-word.invariant in
    invariant.listed ∙ sym (least_below-full _ _ _ _ (omega (arith, c.loop-word.auto.word, c.loop-word.auto.word-end, c.min-end.ensures)) (rw (← invariant.listed) (omega arith)))

pub returns-clause-after : goal.returns-clause-after
returns-clause-after c =
    c.loop-word.invariant.listed ∙ least_below-same (marked c.args.words.now c.args.pages) _ _ _ (omega (arith, c.min-end.ensures, c.div_ceil.ensures, length-marked c.args.words.now c.args.pages))
