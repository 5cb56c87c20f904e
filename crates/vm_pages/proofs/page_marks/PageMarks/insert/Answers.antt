use Rattle.std.proofs.Common.{◌/◌}
use Rattle.vm_pages.proofs.MarkLemmas.{AreWords-set, inserted, same_length, word_there}
use Rattle.vm_pages.proofs.page_marks.PageMarks.insert.Goals as goal

pub get-requires : goal.get-requires
get-requires c = word_there c.self.inside.size c.args.page c.self.inside.words c.self.invariant (rw (← c.self.view_is) at c.requires)

pub set-requires : goal.set-requires
set-requires c = word_there c.self.inside.size c.args.page c.self.inside.words c.self.invariant (rw (← c.self.view_is) at c.requires)

pub invariant_of-self : goal.invariant_of-self
invariant_of-self c = rw c.set.ensures (AreWords-set c.self.inside.size (c.args.page / 64) _ c.self.inside.words c.self.invariant)

pub returns-clause-after : goal.returns-clause-after
returns-clause-after c =
    rw (← c.self.view_is, c.set.ensures, c.get.ensures) (inserted c.self.inside.size c.args.page c.self.inside.words c.self.invariant (rw (← c.self.view_is) at c.requires))

pub returns-clause-size : goal.returns-clause-size
returns-clause-size c = rw (← c.self.view_is) (same_length c.set.new.self.list c.self.inside.words.list c.self.inside.size)
