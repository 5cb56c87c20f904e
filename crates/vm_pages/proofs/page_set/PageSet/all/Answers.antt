use Rattle.std.proofs.Common.{◌∙◌, ap, arith}
use Rattle.vm_pages.specs.Words.{marked}
use Rattle.vm_pages.proofs.BlockLemmas.{AreCounted-all_filled, AreCounted-all_rest}
use Rattle.vm_pages.proofs.WordLemmas.{marked-all, AreKept-all}
use Rattle.vm_pages.proofs.page_set.PageSet.all.Goals as goal
use Rattle.vm_pages.proofs.page_set.PageSet.all.Goals.{then-pages-ne0, else-pages-ne0}

pub invariant_of-result : goal.invariant_of-result
invariant_of-result c = elim c.if-pages-ne0.branch [
  | then-pages-ne0 w ↦
      rw (c.in_ok-words.ensures.items, ap (λ v. v.items) w.counts-is, c.in_ok-counts.ensures.items)
      (AreKept-all c.div_ceil.result _ c.args.size _ (omega (arith, c.div_ceil.ensures)) c.in_ok-words.ensures.room (AreCounted-all_rest c.args.size c.div_ceil-2.result (omega (arith, w.if-pages-ne0.true)) (omega (arith, c.div_ceil-2.ensures, w.if-pages-ne0.true)) c.ranges.size.fits))
  | else-pages-ne0 w ↦
      rw (c.in_ok-words.ensures.items, ap (λ v. v.items) w.counts-is, c.in_ok-counts.ensures.items)
      (AreKept-all c.div_ceil.result _ c.args.size _ (omega (arith, c.div_ceil.ensures)) c.in_ok-words.ensures.room (AreCounted-all_filled c.args.size c.div_ceil-2.result w.if-pages-ne0.false (omega (arith, c.div_ceil-2.ensures, w.if-pages-ne0.false)) c.ranges.size.fits))
]

pub returns-clause-set : goal.returns-clause-set
returns-clause-set c = ap (λ words. marked words c.args.size) c.in_ok-words.ensures.items ∙ marked-all c.div_ceil.result c.args.size (omega (arith, c.div_ceil.ensures))
