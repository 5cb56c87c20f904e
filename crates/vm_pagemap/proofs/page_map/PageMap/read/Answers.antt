use Rattle.std.proofs.Common.{◌∙◌, rules, arith}
use Rattle.std.proofs.lemmas.List.{get_or_default, get_or_read}
use Rattle.vm_pagemap.specs.Kept.{nothing_held}
use Rattle.vm_pagemap.proofs.Kept.{slot-reached, slot-within, shown-held}
use Rattle.vm_pagemap.proofs.page_map.PageMap.read.Goals as goal

pub get-slot-requires : goal.get-slot-requires
get-slot-requires c = slot-reached c.self.inside c.args.self.now c.self.view_is c.self.invariant c.args.page c.requires.in_range c.requires.is_in

pub index-requires : goal.index-requires
index-requires c =
    let reached = slot-reached c.self.inside c.args.self.now c.self.view_is c.self.invariant c.args.page c.requires.in_range c.requires.is_in in
    let within = slot-within c.self.inside c.args.self.now c.self.view_is c.self.invariant c.args.page c.requires.in_range c.requires.is_in in
    let slot = c.get-slot.ensures ∙ get_or_default c.self.inside.slots.list c.args.page _ 0 reached in
    omega (arith, within, slot, c.self.inside.held.ok.0)

pub returns : goal.returns
returns c =
    let reached = slot-reached c.self.inside c.args.self.now c.self.view_is c.self.invariant c.args.page c.requires.in_range c.requires.is_in in
    let within = slot-within c.self.inside c.args.self.now c.self.view_is c.self.invariant c.args.page c.requires.in_range c.requires.is_in in
    let slot = c.get-slot.ensures ∙ get_or_default c.self.inside.slots.list c.args.page _ 0 reached in
    let held = get_or_read c.self.inside.held.items _ _ (omega (arith, within, slot)) c.index.ensures nothing_held in
    rw (shown-held c.self.inside c.args.self.now c.self.view_is c.self.invariant c.args.page c.requires.in_range c.requires.is_in, ← slot, ← held) (search rules)
