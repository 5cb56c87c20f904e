use Rattle.std.proofs.Common.{sym, ap, ◌∙◌, refl}
use Rattle.vm_pages.specs.Pages.{contains}
use Rattle.vm_pages.proofs.Outside.{same_size, counted_of, All-outside}
use Rattle.vm_pages.proofs.page_set.PageSet.list_greatest_outside.Goals as goal

pub list_outside_of-requires-clause-counted : goal.list_outside_of-requires-clause-counted
list_outside_of-requires-clause-counted c = rw (c.deref.ensures.value, c.deref-2.ensures.value) (counted_of _ _ _ _ c.self.invariant.counted refl)

pub list_outside_of-requires-clause-others_counted : goal.list_outside_of-requires-clause-others_counted
list_outside_of-requires-clause-others_counted c =
    let others = same_size _ c.other.inside.words.items c.self.inside.size _ _ _ c.self.view_is c.other.view_is c.requires.same in
    rw (c.deref-3.ensures.value, c.deref-4.ensures.value) (counted_of _ _ _ _ c.other.invariant.counted (c.other.view_is ∙ sym others))

pub list_outside_of-requires-clause-apart : goal.list_outside_of-requires-clause-apart
list_outside_of-requires-clause-apart c =
    let others = same_size _ c.other.inside.words.items c.self.inside.size _ _ _ c.self.view_is c.other.view_is c.requires.same in
    rw (c.deref-2.ensures.value, c.deref-4.ensures.value)
    (λ page there. ap (λ set. contains set page) c.self.view_is ∙ c.requires.apart page (sym (ap (λ set. contains set page) others) ∙ there))

pub returns-clause-listed : goal.returns-clause-listed
returns-clause-listed c =
    let others = same_size _ c.other.inside.words.items c.self.inside.size _ _ _ c.self.view_is c.other.view_is c.requires.same in
    rw (c.deref-2.ensures.value, c.deref-4.ensures.value, c.self.view_is, others) at c.list_outside_of.ensures.listed

pub returns-clause-in_range : goal.returns-clause-in_range
returns-clause-in_range c =
    let others = same_size _ c.other.inside.words.items c.self.inside.size _ _ _ c.self.view_is c.other.view_is c.requires.same in
    rw (rw (c.deref-2.ensures.value, c.deref-4.ensures.value, c.self.view_is, others) at c.list_outside_of.ensures.listed)
    (All-outside c.args.self.now c.args.other.now c.args.except c.args.most c.requires.same)
