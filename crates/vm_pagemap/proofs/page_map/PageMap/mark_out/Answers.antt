use Rattle.std.proofs.Common.{sym, ◌∙◌, arith}
use Rattle.vm_pagemap.proofs.Kept.{shown-within, shown-in, pages_of-mark_out, apart-insert}
use Rattle.vm_pagemap.proofs.page_map.PageMap.mark_out.Goals as goal

pub insert-requires : goal.insert-requires
insert-requires c =
    omega (arith, shown-within c.self.inside c.args.self.now c.args.page c.self.view_is c.requires.in_range, c.self.invariant.same_size)

pub invariant_of-self : goal.invariant_of-self
invariant_of-self c =
    let kept = c.self.invariant in
    let absent = sym (shown-in c.self.inside c.args.self.now c.args.page c.self.view_is c.requires.in_range) ∙ c.requires.not_in in
    record {
      slotted = kept.slotted;
      counted = kept.counted;
      apart = rw c.insert.ensures.after (apart-insert c.self.inside.resident c.self.inside.out c.args.page kept.apart absent);
      same_size = c.insert.ensures.size ∙ kept.same_size;
      fits = kept.fits;
      room = kept.room;
    }

pub returns : goal.returns
returns c =
    let there = shown-within c.self.inside c.args.self.now c.args.page c.self.view_is c.requires.in_range in
    let absent = sym (shown-in c.self.inside c.args.self.now c.args.page c.self.view_is c.requires.in_range) ∙ c.requires.not_in in
    rw (c.insert.ensures.after, ← c.self.view_is)
    (pages_of-mark_out c.self.inside.resident c.self.inside.out c.self.inside.slots.list c.self.inside.held.items c.args.page there absent c.self.invariant.same_size)
