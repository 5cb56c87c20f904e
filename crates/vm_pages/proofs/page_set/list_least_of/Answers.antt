use Rattle.std.proofs.Common.{◌+◌, ◌*◌, sym, ap, ◌∙◌, refl, arith}
use Rattle.vm_pages.specs.Words.{marked}
use Rattle.vm_pages.proofs.BlockLemmas.{block_begins}
use Rattle.vm_pages.proofs.ExtremeLemmas.{least_below-start, least_below-all, least_below-none, least_below-full, none_of_block}
use Rattle.vm_pages.proofs.WordLemmas.{length-marked}
use Rattle.vm_pages.proofs.page_set.list_least_of.Goals as goal
use Rattle.vm_pages.proofs.page_set.list_least_of.Goals.{then-count-gt0, else-count-gt0}

pub loop-block-init : goal.loop-block-init
loop-block-init c = record { listed = c.requires.empty ∙ sym (least_below-start _ _); room = refl }

pub returns-then-len-most-clause-listed : goal.returns-then-len-most-clause-listed
returns-then-len-most-clause-listed c =
    let invariant = c.loop-block.invariant in
    invariant.listed
    ∙ sym (least_below-full _ _ (c.loop-block.block * 2048 + c.args.pages) _ (omega arith) (rw (← invariant.listed) (omega arith)))
    ∙ least_below-all (marked c.args.words.now c.args.pages) (c.loop-block.block * 2048 + c.args.pages) _ (omega (arith, length-marked c.args.words.now c.args.pages))

pub list_block_up-requires-clause-fits : goal.list_block_up-requires-clause-fits
list_block_up-requires-clause-fits c = omega (arith, c.requires.counted.fits, length-marked c.args.words.now c.args.pages)

pub list_block_up-requires-clause-within : goal.list_block_up-requires-clause-within
list_block_up-requires-clause-within c = omega (arith, block_begins _ _ _ c.loop-block.block c.requires.counted c.loop-block-test.true c.if-count-gt0.true, length-marked c.args.words.now c.args.pages)

pub loop-block-preserved : goal.loop-block-preserved
loop-block-preserved c =
    let invariant = c.loop-block.invariant in
    elim c.if-count-gt0.branch [
      | then-count-gt0 w ↦ record {
        listed = ap (λ v. v.items) w.list-is ∙ w.list_block_up.ensures.after;
        room = cc (w.list-is, w.list_block_up.ensures.room, invariant.room);
      }
      | else-count-gt0 w ↦ record {
        listed =
            ap (λ v. v.items) w.list-is
            ∙ invariant.listed
            ∙ sym (least_below-none _ _ _ _ (omega arith) (none_of_block _ _ _ _ c.requires.counted c.loop-block-test.true w.if-count-gt0.false));
        room = cc (w.list-is, invariant.room);
      }
    ]

pub returns-clause-listed : goal.returns-clause-listed
returns-clause-listed c = c.loop-block.invariant.listed ∙ least_below-all _ _ _ (omega (arith, c.requires.counted.blocks))
