use Rattle.std.proofs.Common.{◌≡◌, length, sym, ap, ◌∙◌, arith}
use Rattle.std.proofs.lemmas.List.{length-map, nil_from_length}
use Rattle.std.specs.FinMap as slots
use Rattle.vm_guest.proofs.HoldingLemmas.{under-apart}
use Rattle.vm_guest.proofs.NumberLemmas.{is_subset-left, is_subset-right, is_subset-difference, difference-union}
use Rattle.vm_pagemap.specs.FramesUnder.{frames_under}
use Rattle.vm_pagemap.specs.PageMap.{absent_pages, place_of}
use Rattle.vm_pagemap.proofs.Resident.{length-absent_pages}
use Rattle.vm_swap.specs.Area.{Area}
use Rattle.vm_guest.specs.Frames.{numbers_among}
use Rattle.vm_guest.specs.Holding.{Holding}
use Rattle.vm_guest.proofs.memory.HeldMemory.empty.Goals as goal

pub give_spares-requires-clause-once : goal.give_spares-requires-clause-once
give_spares-requires-clause-once c = λ n. omega (arith, c.self.invariant.holding.once n)

pub give_spares-requires-clause-out : goal.give_spares-requires-clause-out
give_spares-requires-clause-out c =
    let out = rw (← c.self.view_is) at c.requires.out in
    is_subset-right _ _ _ out

pub give_pages-requires-clause-out : goal.give_pages-requires-clause-out
give_pages-requires-clause-out c =
    let out = rw (← c.self.view_is) at c.requires.out in
    rw c.give_spares.ensures.frames (is_subset-difference _ _ _ (is_subset-left _ _ _ out) (under-apart c.self.inside.pages c.self.inside.spares.items c.self.invariant.holding.once))

pub returns-clause-room : goal.returns-clause-room
returns-clause-room c =
    let i = c.self.inside in
    let good = c.self.invariant in
    let size : length c.clear.new.self ≡ length i.pages = ap length c.clear.ensures ∙ length-absent_pages (length c.give_pages.new.pages) ∙ c.give_pages.ensures.size in
    record {
      few_pages = omega (arith, size, good.holding.few_pages);
      pages = c.clear.ensures ∙ ap absent_pages (c.give_pages.ensures.size ∙ sym size);
      swap = c.empty.ensures ∙ sym (ap (λ n. record { pages = slots.empty; capacity = n }) (ap (λ (a : Area). a.capacity) c.empty.ensures));
      spares = nil_from_length c.give_spares.new.spares.items (omega (arith, c.give_spares.ensures.none, c.give_spares.new.spares.ok));
      room = omega (arith, size, good.room, c.give_spares.ensures.room);
    }

pub returns-clause-pages : goal.returns-clause-pages
returns-clause-pages c =
    ap length c.clear.ensures ∙ length-absent_pages (length c.give_pages.new.pages) ∙ c.give_pages.ensures.size
    ∙ sym (length-map c.self.inside.pages place_of) ∙ ap (λ (h : Holding). length h.memory.places) c.self.view_is

pub returns-clause-frames : goal.returns-clause-frames
returns-clause-frames c = rw (← c.self.view_is, c.give_pages.ensures.frames, c.give_spares.ensures.frames) (λ i. record { total = c.args.machine.now.total; out = difference-union (frames_under c.self.inside.pages) (numbers_among c.self.inside.spares.items) c.args.machine.now.out i })
