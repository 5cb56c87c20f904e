use Rattle.std.proofs.Common.{sym}
use Rattle.vm_pages.proofs.WordLemmas.{read-marked}
use Rattle.vm_pages.proofs.page_set.PageSet.contains.Goals as goal

pub returns : goal.returns
returns c = rw (← c.self.view_is) (sym (read-marked _ _ _ _ (rw (← c.self.view_is) at c.requires) (rw c.deref.ensures.value at c.is_marked.ensures)))
