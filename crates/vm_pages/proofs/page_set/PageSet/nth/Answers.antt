use Rattle.std.proofs.Common.{◌≡◌, ◌+◌, ◌*◌, arith}
use Rattle.vm_pages.specs.Pages.{count_below}
use Rattle.vm_pages.specs.Words.{marked}
use Rattle.vm_pages.proofs.BlockLemmas.{sum-counts, sum-all_counts}
use Rattle.vm_pages.proofs.page_set.PageSet.nth.Goals as goal

pub block_of-block-requires : goal.block_of-block-requires
block_of-block-requires c =
    let there = rw (← c.self.view_is) at c.requires in
    rw c.deref.ensures.value (omega (arith, there, sum-all_counts _ _ _ c.self.invariant.counted))

pub returns-clause-listed : goal.returns-clause-listed
returns-clause-listed c =
    let before = rw c.deref.ensures.value at c.block_of-block.ensures.before in
    let block = rw c.deref.ensures.value at c.block_of-block.ensures.in_range in
    let word = rw c.deref-2.ensures.value at c.word_of-word.ensures.before in
    let listed = rw c.deref-3.ensures.value at c.page_in.ensures.listed in
    let same : c.block_of-block.result.0 * 32 * 64 ≡ c.block_of-block.result.0 * 2048 = omega arith in
    let place : count_below (marked c.self.inside.words.items c.self.inside.size) (c.word_of-word.result.0 * 64) + c.word_of-word.result.1 ≡ c.args.k =
    omega (arith, before, rw same at word, sum-counts _ _ _ c.block_of-block.result.0 c.self.invariant.counted (omega (arith, block))) in
    rw (← c.self.view_is, ← place) listed
