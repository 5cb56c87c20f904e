use Rattle.vm_pages.proofs.MarkLemmas.{bit_read, word_there}
use Rattle.vm_pages.proofs.page_marks.PageMarks.contains.Goals as goal

pub get-requires : goal.get-requires
get-requires c = word_there c.self.inside.size c.args.page c.self.inside.words c.self.invariant (rw (← c.self.view_is) at c.requires)

pub returns : goal.returns
returns c = rw (← c.self.view_is, c.get.ensures) (bit_read c.self.inside.size c.args.page c.self.inside.words c.self.invariant (rw (← c.self.view_is) at c.requires))
