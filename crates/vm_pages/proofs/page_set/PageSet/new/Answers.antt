use Rattle.std.proofs.Common.{◌∙◌, ap, arith}
use Rattle.vm_pages.specs.Words.{marked}
use Rattle.vm_pages.proofs.BlockLemmas.{AreCounted-none}
use Rattle.vm_pages.proofs.WordLemmas.{marked-nil, AreKept-none}
use Rattle.vm_pages.proofs.page_set.PageSet.new.Goals as goal

pub invariant_of-result : goal.invariant_of-result
invariant_of-result c =
    rw (c.in_ok-words.ensures.items, c.in_ok-counts.ensures.items)
    (AreKept-none _ c.args.size _ (omega (arith, c.div_ceil.ensures, c.in_ok-words.ensures.capacity))
    (AreCounted-none c.args.size c.div_ceil-2.result (omega (arith, c.div_ceil-2.ensures)) (omega (arith, c.div_ceil-2.ensures)) c.ranges.size.fits))

pub returns-clause-set : goal.returns-clause-set
returns-clause-set c = ap (λ words. marked words c.args.size) c.in_ok-words.ensures.items ∙ marked-nil c.args.size
