use Rattle.std.proofs.Common.{Option, None, Some, IfNone, refl, sym, ◌∙◌}
use Rattle.vm_pagemap.proofs.Kept.{kept_taken, shown_taken}
use Rattle.vm_pagemap.proofs.Last.{none_in, last-within, last-there, last-is_in, last-frame, last-taken}
use Rattle.vm_pagemap.proofs.page_map.PageMap.take_frame.Goals as goal

if_none : {X : Type 0} (r : Option X) (P : Type 0) → P → IfNone r P
if_none None P p = p
if_none (Some x) P p = tt

pub returns-in_err-page-clause-none : goal.returns-in_err-page-clause-none
returns-in_err-page-clause-none c =
    if_none c.from_residual.result _ (none_in c.self.inside c.args.self.now c.self.view_is c.self.invariant (sym c.self.inside.held.ok.0 ∙ c.in_err-page.ensures.cases.0))

pub remove-requires : goal.remove-requires
remove-requires c = last-within c.self.inside c.args.self.now c.self.view_is c.self.invariant c.pop.new.self.items c.in_ok-page.field-0 c.in_ok-page.ensures.items

pub invariant_of-self-2 : goal.invariant_of-self-2
invariant_of-self-2 c =
    kept_taken c.self.inside c.args.self.now c.self.view_is c.self.invariant c.in_ok-page.field-0.page
    (last-there c.self.inside c.args.self.now c.self.view_is c.self.invariant c.pop.new.self.items c.in_ok-page.field-0 c.in_ok-page.ensures.items)
    (last-is_in c.self.inside c.args.self.now c.self.view_is c.self.invariant c.pop.new.self.items c.in_ok-page.field-0 c.in_ok-page.ensures.items)
    (record { resident = c.remove.new.self; out = c.self.inside.out; slots = c.self.inside.slots; held = c.pop.new.self })
    c.in_ok-page.field-0.page c.remove.ensures.after refl
    (last-taken c.self.inside c.args.self.now c.self.view_is c.self.invariant c.pop.new.self.items c.in_ok-page.field-0 c.in_ok-page.ensures.items)
    c.pop.ensures.capacity

pub returns-clause-in_range : goal.returns-clause-in_range
returns-clause-in_range c = last-there c.self.inside c.args.self.now c.self.view_is c.self.invariant c.pop.new.self.items c.in_ok-page.field-0 c.in_ok-page.ensures.items

pub returns-clause-frame : goal.returns-clause-frame
returns-clause-frame c = last-frame c.self.inside c.args.self.now c.self.view_is c.self.invariant c.pop.new.self.items c.in_ok-page.field-0 c.in_ok-page.ensures.items

pub returns-clause-absent : goal.returns-clause-absent
returns-clause-absent c =
    shown_taken c.self.inside c.args.self.now c.self.view_is c.self.invariant c.in_ok-page.field-0.page
    (last-there c.self.inside c.args.self.now c.self.view_is c.self.invariant c.pop.new.self.items c.in_ok-page.field-0 c.in_ok-page.ensures.items)
    (last-is_in c.self.inside c.args.self.now c.self.view_is c.self.invariant c.pop.new.self.items c.in_ok-page.field-0 c.in_ok-page.ensures.items)
    (record { resident = c.remove.new.self; out = c.self.inside.out; slots = c.self.inside.slots; held = c.pop.new.self })
    c.in_ok-page.field-0.page c.remove.ensures.after refl
    (last-taken c.self.inside c.args.self.now c.self.view_is c.self.invariant c.pop.new.self.items c.in_ok-page.field-0 c.in_ok-page.ensures.items)
