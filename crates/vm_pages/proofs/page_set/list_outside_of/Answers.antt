use Rattle.std.proofs.Common.{◌≡◌, ◌+◌, ◌-◌, ◌*◌, sym, ap, ◌∙◌, refl, arith}
use Rattle.vm_pages.specs.Extremes.{greatest_from}
use Rattle.vm_pages.proofs.ExtremeLemmas.{greatest_from-past, greatest_from-all, greatest_from-none, greatest_from-full}
use Rattle.vm_pages.proofs.Outside.{outside, length-outside, block_outside}
use Rattle.vm_pages.proofs.WordLemmas.{length-marked}
use Rattle.vm_pages.proofs.page_set.list_outside_of.Goals as goal

pub loop-block-init : goal.loop-block-init
loop-block-init c = record {
  listed =
      c.requires.empty
      ∙ sym (greatest_from-past _ _ _ (omega (arith, c.div_ceil-block.ensures, length-outside c.args.words.now c.args.others.now c.args.except c.args.pages)));
  room = refl;
}

pub returns-then-len-most-clause-listed : goal.returns-then-len-most-clause-listed
returns-then-len-most-clause-listed c =
    let invariant = c.loop-block.invariant in
    invariant.listed ∙ sym (greatest_from-full _ 0 _ _ (omega arith) (rw (← invariant.listed) (omega arith))) ∙ greatest_from-all _ _

pub list_block_outside-requires-clause-fits : goal.list_block_outside-requires-clause-fits
list_block_outside-requires-clause-fits c = omega (arith, c.requires.counted.fits, length-marked c.args.words.now c.args.pages)

pub bounds-counts-block : goal.bounds-counts-block
bounds-counts-block c = omega (arith, c.requires.counted.blocks, length-marked c.args.words.now c.args.pages, c.div_ceil-block.ensures)

pub bounds-other_counts-block : goal.bounds-other_counts-block
bounds-other_counts-block c = omega (arith, c.requires.others_counted.blocks, length-marked c.args.others.now c.args.pages, c.div_ceil-block.ensures)

pub overflow_add-counts : goal.overflow_add-counts
overflow_add-counts c =
    let long = length-marked c.args.words.now c.args.pages in
    let block = block_outside _ _ _ _ _ _ c.args.except (c.loop-block.block - 1) c.min-all.result c.requires.counted c.requires.others_counted (long ∙ sym (length-marked c.args.others.now c.args.pages)) c.requires.apart (omega (arith, long, c.div_ceil-block.ensures)) (omega (arith, long, c.min-all.ensures)) in
    omega (arith, block.few, c.min-all.ensures)

pub loop-block-preserved : goal.loop-block-preserved
loop-block-preserved c =
    let invariant = c.loop-block.invariant in
    let above : c.loop-block.block - 1 + 1 ≡ c.loop-block.block = omega arith in
    let long = length-marked c.args.words.now c.args.pages in
    let block = block_outside _ _ _ _ _ _ c.args.except (c.loop-block.block - 1) c.min-all.result c.requires.counted c.requires.others_counted (long ∙ sym (length-marked c.args.others.now c.args.pages)) c.requires.apart (omega (arith, long, c.div_ceil-block.ensures)) (omega (arith, long, c.min-all.ensures)) in
    let none = rw above at (block.none (omega arith)) in
    record {
      listed = invariant.listed ∙ sym (greatest_from-none (outside c.args.words.now c.args.others.now c.args.except c.args.pages) ((c.loop-block.block - 1) * 2048) (c.loop-block.block * 2048) c.args.most (omega arith) none);
      room = invariant.room;
    }

pub returns-clause-listed : goal.returns-clause-listed
returns-clause-listed c =
    let first : c.loop-block.block * 2048 ≡ 0 = omega arith in
    c.loop-block.invariant.listed ∙ ap (λ n. greatest_from (outside c.args.words.now c.args.others.now c.args.except c.args.pages) n c.args.most) first ∙ greatest_from-all _ _
