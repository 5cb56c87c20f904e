use Rattle.std.proofs.Common.{arith, ◌*◌, ◌≤◌}
use Rattle.vm_pages.specs.Words.{marked}
use Rattle.vm_pages.proofs.Listings.{count_below_all}
use Rattle.vm_pages.proofs.WordLemmas.{length-marked, word_passed}
use Rattle.vm_pages.proofs.words.word_of.Goals as goal

pub loop-word-preserved : goal.loop-word-preserved
loop-word-preserved c =
    let count = c.word_at-count.ensures in
    rw count
    (word_passed c.args.words.now c.args.pages c.loop-word.word c.loop-word.left _ (omega (arith, c.type_inv.words c.loop-word.word)) (omega (arith, c.loop-word-test.true, c.div_ceil-word-end.ensures)) (rw count at c.if-left-count.false) c.loop-word.invariant c.requires.there)

pub unreachable-requires : goal.unreachable-requires
unreachable-requires c =
    let past : c.args.pages ≤ c.loop-word.word * 64 = omega (arith, c.loop-word-test.false, c.div_ceil-word-end.ensures) in
    omega (arith, c.loop-word.invariant, c.requires.there, count_below_all (marked c.args.words.now c.args.pages) (c.loop-word.word * 64) (omega (arith, length-marked c.args.words.now c.args.pages)))
