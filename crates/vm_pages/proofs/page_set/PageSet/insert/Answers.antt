use Rattle.std.proofs.Common.{refl, sym, ◌∙◌}
use Rattle.vm_pages.proofs.BlockLemmas.{inserted}
use Rattle.vm_pages.proofs.PageSets.{insert-contained}
use Rattle.vm_pages.proofs.WordLemmas.{has_room, read-marked, AreKept-after}
use Rattle.vm_pages.proofs.page_set.PageSet.insert.Goals as goal

pub returns-then-is_marked-clause-added : goal.returns-then-is_marked-clause-added
returns-then-is_marked-clause-added c =
    let there = read-marked _ _ _ _ (rw (← c.self.view_is) at c.requires) (rw c.deref.ensures.value at c.is_marked.ensures) ∙ c.if-is_marked.true in
    rw (← c.self.view_is, there) refl

pub returns-then-is_marked-clause-after : goal.returns-then-is_marked-clause-after
returns-then-is_marked-clause-after c =
    let there = read-marked _ _ _ _ (rw (← c.self.view_is) at c.requires) (rw c.deref.ensures.value at c.is_marked.ensures) ∙ c.if-is_marked.true in
    rw (← c.self.view_is) (sym (insert-contained _ _ there))

pub mark-requires : goal.mark-requires
mark-requires c = has_room c.self.inside.words.items _ _ _ c.self.invariant.marks (rw (← c.self.view_is) at c.requires)

pub overflow_add-index_mut : goal.overflow_add-index_mut
overflow_add-index_mut c =
    let absent = read-marked _ _ _ _ (rw (← c.self.view_is) at c.requires) (rw c.deref.ensures.value at c.is_marked.ensures) ∙ c.if-is_marked.false in
    (inserted _ _ _ _ _ c.self.invariant.counted (rw (← c.self.view_is) at c.requires) absent c.index_mut.ensures.value).count_fits

pub overflow_add-self : goal.overflow_add-self
overflow_add-self c =
    let absent = read-marked _ _ _ _ (rw (← c.self.view_is) at c.requires) (rw c.deref.ensures.value at c.is_marked.ensures) ∙ c.if-is_marked.false in
    (inserted _ _ _ _ _ c.self.invariant.counted (rw (← c.self.view_is) at c.requires) absent c.index_mut.ensures.value).len_fits

pub invariant_of-self : goal.invariant_of-self
invariant_of-self c =
    let absent = read-marked _ _ _ _ (rw (← c.self.view_is) at c.requires) (rw c.deref.ensures.value at c.is_marked.ensures) ∙ c.if-is_marked.false in
    let counted = (inserted _ _ _ _ _ c.self.invariant.counted (rw (← c.self.view_is) at c.requires) absent c.index_mut.ensures.value).counted in
    AreKept-after c.mark.new.words.items _ _ _ _ _ _ c.self.invariant.marks c.mark.ensures.room (c.mark.ensures.after c.self.inside.size) counted

pub returns-clause-added : goal.returns-clause-added
returns-clause-added c =
    let absent = read-marked _ _ _ _ (rw (← c.self.view_is) at c.requires) (rw c.deref.ensures.value at c.is_marked.ensures) ∙ c.if-is_marked.false in
    rw (← c.self.view_is, absent) refl
