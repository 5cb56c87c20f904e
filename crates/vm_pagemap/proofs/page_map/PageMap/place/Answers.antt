use Rattle.std.proofs.Common.{true, false, ap, sym, ◌∙◌, arith}
use Rattle.vm_pagemap.specs.PageMap.{place_of}
use Rattle.vm_pagemap.proofs.Kept.{shown-within, shown-in, shown-frame, shown-not_in}
use Rattle.vm_pagemap.proofs.page_map.PageMap.place.Goals as goal

pub contains-requires : goal.contains-requires
contains-requires c = shown-within c.self.inside c.args.self.now c.args.page c.self.view_is c.requires

pub contains-requires-else-contains : goal.contains-requires-else-contains
contains-requires-else-contains c =
    omega (arith, shown-within c.self.inside c.args.self.now c.args.page c.self.view_is c.requires, c.self.invariant.same_size)

pub returns-then-contains-clause-place : goal.returns-then-contains-clause-place
returns-then-contains-clause-place c =
    sym (ap place_of (shown-frame c.self.inside c.args.self.now c.args.page c.self.view_is c.requires (sym c.contains.ensures ∙ c.if-contains.true)))

pub returns-then-contains-clause-is_in : goal.returns-then-contains-clause-is_in
returns-then-contains-clause-is_in c =
    λ _. shown-in c.self.inside c.args.self.now c.args.page c.self.view_is c.requires ∙ sym c.contains.ensures ∙ c.if-contains.true

pub returns-then-contains-2-clause-place : goal.returns-then-contains-2-clause-place
returns-then-contains-2-clause-place c =
    sym (ap place_of
    (shown-not_in c.self.inside c.args.self.now c.args.page c.self.view_is c.requires true (sym c.contains.ensures ∙ c.if-contains.false) (sym c.contains-else-contains.ensures ∙ c.if-contains-2.true)))

pub returns-then-contains-2-clause-out : goal.returns-then-contains-2-clause-out
returns-then-contains-2-clause-out c =
    λ _. shown-not_in c.self.inside c.args.self.now c.args.page c.self.view_is c.requires true (sym c.contains.ensures ∙ c.if-contains.false) (sym c.contains-else-contains.ensures ∙ c.if-contains-2.true)

pub returns-else-contains-2-clause-place : goal.returns-else-contains-2-clause-place
returns-else-contains-2-clause-place c =
    sym (ap place_of
    (shown-not_in c.self.inside c.args.self.now c.args.page c.self.view_is c.requires false (sym c.contains.ensures ∙ c.if-contains.false) (sym c.contains-else-contains.ensures ∙ c.if-contains-2.false)))

pub returns-else-contains-2-clause-absent : goal.returns-else-contains-2-clause-absent
returns-else-contains-2-clause-absent c =
    λ _. shown-not_in c.self.inside c.args.self.now c.args.page c.self.view_is c.requires false (sym c.contains.ensures ∙ c.if-contains.false) (sym c.contains-else-contains.ensures ∙ c.if-contains-2.false)
