use Rattle.std.proofs.Common.{◌≡◌, ◌+◌, ◌≤◌, length, ap, arith}
use Rattle.std.proofs.lemmas.List.{length-map}
use Rattle.vm_pagemap.specs.PageMap.{resident}
use Rattle.vm_pages.specs.Pages.{count}
use Rattle.vm_guest.specs.Holding.{holding_of}
use Rattle.vm_guest.specs.Memory.{with_held}
use Rattle.vm_guest.proofs.HeldLemmas.{IsHolding-spares}
use Rattle.vm_guest.proofs.TakenLemmas.{once-later, out-later}
use Rattle.vm_guest.proofs.memory.HeldMemory.add_spares.Goals as goal

pub take_frames-requires-clause-room : goal.take_frames-requires-clause-room
take_frames-requires-clause-room c =
    let m = c.self.inside in
    let room = simp length-map at (rw (← c.self.view_is) at c.requires.room) in
    omega (arith, room, m.spares.ok, c.self.invariant.room)

pub invariant_of-self : goal.invariant_of-self
invariant_of-self c =
    let m = c.self.inside in
    let later = c.take_frames.new.frames in
    let room = simp length-map at (rw (← c.self.view_is) at c.requires.room) in
    let there = rw (← c.self.view_is) at c.requires.out in
    let once = once-later m.pages m.spares.items later.items _ _ c.take_frames.ensures.added c.self.invariant.holding.once there in
    let few : count (resident m.pages) + length later.items ≤ length m.pages = omega (arith, room, c.take_frames.ensures.taken, later.ok, m.spares.ok) in
    record {
      holding = IsHolding-spares m.pages m.swap m.spares.items later.items once few c.self.invariant.holding;
      room = omega (arith, c.take_frames.ensures.capacity, c.self.invariant.room);
    }

pub returns-clause-memory : goal.returns-clause-memory
returns-clause-memory c =
    let m = c.self.inside in
    let later = c.take_frames.new.frames in
    let more : count (resident m.pages) + length later.items ≡ count (resident m.pages) + length m.spares.items + c.args.count =
    omega (arith, c.take_frames.ensures.taken, later.ok, m.spares.ok) in
    rw (← c.self.view_is) (ap (with_held (holding_of m.pages m.swap m.spares.items).memory) more)

pub returns-clause-frames : goal.returns-clause-frames
returns-clause-frames c =
    let m = c.self.inside in
    let there = rw (← c.self.view_is) at c.requires.out in
    rw (← c.self.view_is) (out-later m.pages m.spares.items c.take_frames.new.frames.items _ _ c.take_frames.ensures.added c.self.invariant.holding.once there)
