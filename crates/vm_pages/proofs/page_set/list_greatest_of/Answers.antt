use Rattle.std.proofs.Common.{◌≡◌, ◌+◌, ◌-◌, ◌*◌, sym, ap, ◌∙◌, refl, arith}
use Rattle.vm_pages.specs.Extremes.{greatest_from}
use Rattle.vm_pages.specs.Words.{marked}
use Rattle.vm_pages.proofs.BlockLemmas.{block_begins}
use Rattle.vm_pages.proofs.ExtremeLemmas.{greatest_from-past, greatest_from-all, greatest_from-none, greatest_from-full, none_of_block}
use Rattle.vm_pages.proofs.WordLemmas.{length-marked}
use Rattle.vm_pages.proofs.page_set.list_greatest_of.Goals as goal

pub loop-block-init : goal.loop-block-init
loop-block-init c = record {
  listed = c.requires.empty ∙ sym (greatest_from-past _ _ _ c.requires.counted.blocks);
  room = refl;
}

pub returns-then-len-most-clause-listed : goal.returns-then-len-most-clause-listed
returns-then-len-most-clause-listed c =
    let invariant = c.loop-block.invariant in
    invariant.listed ∙ sym (greatest_from-full _ 0 _ _ (omega arith) (rw (← invariant.listed) (omega arith))) ∙ greatest_from-all _ _

pub list_block_down-requires-clause-fits : goal.list_block_down-requires-clause-fits
list_block_down-requires-clause-fits c = omega (arith, c.requires.counted.fits, length-marked c.args.words.now c.args.pages)

pub list_block_down-requires-clause-within : goal.list_block_down-requires-clause-within
list_block_down-requires-clause-within c = omega (arith, block_begins _ _ _ (c.loop-block.block - 1) c.requires.counted (omega arith) c.if-counts-block-gt0.true, length-marked c.args.words.now c.args.pages)

pub loop-block-preserved : goal.loop-block-preserved
loop-block-preserved c =
    let invariant = c.loop-block.invariant in
    let above : c.loop-block.block - 1 + 1 ≡ c.loop-block.block = omega arith in
    let none = rw above at (none_of_block _ _ _ (c.loop-block.block - 1) c.requires.counted (omega arith) c.if-counts-block-gt0.false) in
    record {
      listed = invariant.listed ∙ sym (greatest_from-none (marked c.args.words.now c.args.pages) ((c.loop-block.block - 1) * 2048) (c.loop-block.block * 2048) c.args.most (omega arith) none);
      room = invariant.room;
    }

pub returns-clause-listed : goal.returns-clause-listed
returns-clause-listed c =
    let first : c.loop-block.block * 2048 ≡ 0 = omega arith in
    c.loop-block.invariant.listed ∙ ap (λ n. greatest_from (marked c.args.words.now c.args.pages) n c.args.most) first ∙ greatest_from-all _ _
