use Rattle.std.proofs.Common.{◌/◌, get_or, take}
use Rattle.vm_pages.proofs.MarkLemmas.{AreWords-set, all_removed, same_length, word_there}
use Rattle.vm_pages.proofs.page_marks.PageMarks.remove_run.Goals as goal

pub get-requires : goal.get-requires
get-requires c = word_there c.self.inside.size _ c.self.inside.words c.self.invariant ((rw (← c.self.view_is) at c.requires.in_range) 0 0 c.requires.some)

pub set-requires : goal.set-requires
set-requires c = word_there c.self.inside.size _ c.self.inside.words c.self.invariant ((rw (← c.self.view_is) at c.requires.in_range) 0 0 c.requires.some)

pub invariant_of-self : goal.invariant_of-self
invariant_of-self c = rw c.set.ensures (AreWords-set c.self.inside.size (get_or c.args.pages.now 0 0 / 64) _ c.self.inside.words c.self.invariant)

pub returns-clause-after : goal.returns-clause-after
returns-clause-after c =
    let words = c.self.inside.words in
    let there = word_there c.self.inside.size _ words c.self.invariant ((rw (← c.self.view_is) at c.requires.in_range) 0 0 c.requires.some) in
    rw (← c.self.view_is, c.set.ensures, c.without_run-run.ensures.marks, c.get.ensures)
    (all_removed c.self.inside.size (get_or c.args.pages.now 0 0 / 64) words (take c.without_run-run.result.0 c.args.pages.now) c.self.invariant there c.without_run-run.ensures.same_word)

pub returns-clause-size : goal.returns-clause-size
returns-clause-size c = rw (← c.self.view_is) (same_length c.set.new.self.list c.self.inside.words.list c.self.inside.size)
