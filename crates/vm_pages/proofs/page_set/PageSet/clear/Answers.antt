use Rattle.std.proofs.Common.{sym, ap, ◌∙◌, arith}
use Rattle.vm_pages.specs.Pages.{no_pages}
use Rattle.vm_pages.specs.Words.{marked}
use Rattle.vm_pages.proofs.BlockLemmas.{AreCounted-none}
use Rattle.vm_pages.proofs.WordLemmas.{length-marked, marked-nil, AreKept-none}
use Rattle.vm_pages.proofs.page_set.PageSet.clear.Goals as goal

pub invariant_of-self : goal.invariant_of-self
invariant_of-self c =
    let counted = c.self.invariant.counted in
    let size = length-marked c.self.inside.words.items c.self.inside.size in
    rw (c.clear.ensures.items, c.clear.ensures.capacity, c.fill.ensures.items (λ y same. same))
    (AreKept-none _ c.self.inside.size _ c.self.invariant.marks
    (AreCounted-none c.self.inside.size c.self.inside.counts.len (omega (arith, counted.blocks, size, c.self.inside.counts.ok.0)) (omega (arith, counted.few, size, c.self.inside.counts.ok.0)) (omega (arith, counted.fits, size))))

pub returns : goal.returns
returns c =
    rw (← c.self.view_is)
    (ap (λ words. marked words c.self.inside.size) c.clear.ensures.items
    ∙ marked-nil c.self.inside.size
    ∙ ap no_pages (sym (length-marked c.self.inside.words.items c.self.inside.size)))
