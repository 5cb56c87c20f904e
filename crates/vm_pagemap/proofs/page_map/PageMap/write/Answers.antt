use Rattle.std.proofs.Common.{◌∙◌, arith}
use Rattle.std.proofs.lemmas.List.{get_or_default}
use Rattle.vm_pagemap.proofs.Kept.{slot-reached, slot-within, shown_written}
use Rattle.vm_pagemap.proofs.page_map.PageMap.write.Goals as goal

pub get-slot-requires : goal.get-slot-requires
get-slot-requires c = slot-reached c.self.inside c.args.self.now c.self.view_is c.self.invariant c.args.page c.requires.in_range c.requires.is_in

pub index_mut-requires : goal.index_mut-requires
index_mut-requires c =
    let reached = slot-reached c.self.inside c.args.self.now c.self.view_is c.self.invariant c.args.page c.requires.in_range c.requires.is_in in
    let within = slot-within c.self.inside c.args.self.now c.self.view_is c.self.invariant c.args.page c.requires.in_range c.requires.is_in in
    let slot = c.get-slot.ensures ∙ get_or_default c.self.inside.slots.list c.args.page _ 0 reached in
    omega (arith, within, slot, c.self.inside.held.ok.0)

pub returns : goal.returns
returns c =
    let reached = slot-reached c.self.inside c.args.self.now c.self.view_is c.self.invariant c.args.page c.requires.in_range c.requires.is_in in
    let slot = c.get-slot.ensures ∙ get_or_default c.self.inside.slots.list c.args.page _ 0 reached in
    shown_written c.self.inside c.args.self.now c.self.view_is c.self.invariant c.args.page c.requires.in_range c.requires.is_in c.get-slot.result c.index_mut.result.now c.write_held.new.held c.args.offset c.args.bytes.now slot c.index_mut.ensures.value
    c.write_held.ensures.page c.write_held.ensures.frame
