use Rattle.std.proofs.Common.{length, sym, ap, ◌∙◌}
use Rattle.vm_pages.specs.Pages.{no_pages}
use Rattle.vm_pages.proofs.MarkLemmas.{AreWords-none}
use Rattle.vm_pages.proofs.WordLemmas.{length-marked, marked-none}
use Rattle.vm_pages.proofs.page_marks.PageMarks.clear.Goals as goal

pub invariant_of-self : goal.invariant_of-self
invariant_of-self c =
    let words = c.self.inside.words in
    rw (c.clear.ensures, c.self.invariant.from_zero) (AreWords-none c.self.inside.size (length words.list) c.self.invariant.marks)

pub returns : goal.returns
returns c =
    let words = c.self.inside.words in
    rw (← c.self.view_is, c.clear.ensures, c.self.invariant.from_zero)
    (marked-none (length words.list) c.self.inside.size ∙ ap no_pages (sym (length-marked words.list c.self.inside.size)))
