use Rattle.std.proofs.Common.{refl, sym, ◌∙◌, arith}
use Rattle.vm_pages.specs.Words.{marked}
use Rattle.vm_pages.proofs.BlockLemmas.{removed}
use Rattle.vm_pages.proofs.PageSets.{count-positive, remove-absent}
use Rattle.vm_pages.proofs.WordLemmas.{read-marked, AreKept-after}
use Rattle.vm_pages.proofs.page_set.PageSet.remove.Goals as goal

pub returns-then-not-is_marked-clause-removed : goal.returns-then-not-is_marked-clause-removed
returns-then-not-is_marked-clause-removed c =
    let absent = read-marked _ _ _ _ (rw (← c.self.view_is) at c.requires) (rw c.deref.ensures.value at c.is_marked.ensures) ∙ c.if-not-is_marked.true in
    rw (← c.self.view_is, absent) refl

pub returns-then-not-is_marked-clause-after : goal.returns-then-not-is_marked-clause-after
returns-then-not-is_marked-clause-after c =
    let absent = read-marked _ _ _ _ (rw (← c.self.view_is) at c.requires) (rw c.deref.ensures.value at c.is_marked.ensures) ∙ c.if-not-is_marked.true in
    rw (← c.self.view_is) (sym (remove-absent _ _ absent))

pub overflow_sub-index_mut : goal.overflow_sub-index_mut
overflow_sub-index_mut c =
    let there = read-marked _ _ _ _ (rw (← c.self.view_is) at c.requires) (rw c.deref.ensures.value at c.is_marked.ensures) ∙ c.if-not-is_marked.false in
    (removed _ _ _ _ _ c.self.invariant.counted (rw (← c.self.view_is) at c.requires) there c.index_mut.ensures.value).counts_it

pub overflow_sub-self : goal.overflow_sub-self
overflow_sub-self c =
    let there = read-marked _ _ _ _ (rw (← c.self.view_is) at c.requires) (rw c.deref.ensures.value at c.is_marked.ensures) ∙ c.if-not-is_marked.false in
    omega (arith, c.self.invariant.counted.all, count-positive (marked c.self.inside.words.items c.self.inside.size) c.args.page there)

pub invariant_of-self : goal.invariant_of-self
invariant_of-self c =
    let there = read-marked _ _ _ _ (rw (← c.self.view_is) at c.requires) (rw c.deref.ensures.value at c.is_marked.ensures) ∙ c.if-not-is_marked.false in
    let counted = (removed _ _ _ _ _ c.self.invariant.counted (rw (← c.self.view_is) at c.requires) there c.index_mut.ensures.value).counted in
    AreKept-after c.unmark.new.words.items _ _ _ _ _ _ c.self.invariant.marks (omega (arith, c.unmark.ensures.room)) (c.unmark.ensures.after c.self.inside.size) counted

pub returns-clause-removed : goal.returns-clause-removed
returns-clause-removed c =
    let there = read-marked _ _ _ _ (rw (← c.self.view_is) at c.requires) (rw c.deref.ensures.value at c.is_marked.ensures) ∙ c.if-not-is_marked.false in
    rw (← c.self.view_is, there) refl
