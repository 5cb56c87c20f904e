use Rattle.std.proofs.Common.{sym, ◌∙◌, arith}
use Rattle.vm_pagemap.proofs.Kept.{shown-within, shown-in, pages_of-mark_absent, apart-remove}
use Rattle.vm_pagemap.proofs.page_map.PageMap.mark_absent.Goals as goal

pub remove-requires : goal.remove-requires
remove-requires c =
    omega (arith, shown-within c.self.inside c.args.self.now c.args.page c.self.view_is c.requires.in_range, c.self.invariant.same_size)

pub invariant_of-self : goal.invariant_of-self
invariant_of-self c =
    let kept = c.self.invariant in
    record {
      slotted = kept.slotted;
      counted = kept.counted;
      apart = rw c.remove.ensures.after (apart-remove c.self.inside.resident c.self.inside.out c.args.page kept.apart);
      same_size = c.remove.ensures.size ∙ kept.same_size;
      fits = kept.fits;
      room = kept.room;
    }

pub returns : goal.returns
returns c =
    let there = shown-within c.self.inside c.args.self.now c.args.page c.self.view_is c.requires.in_range in
    let absent = sym (shown-in c.self.inside c.args.self.now c.args.page c.self.view_is c.requires.in_range) ∙ c.requires.not_in in
    rw (c.remove.ensures.after, ← c.self.view_is)
    (pages_of-mark_absent c.self.inside.resident c.self.inside.out c.self.inside.slots.list c.self.inside.held.items c.args.page there absent)
