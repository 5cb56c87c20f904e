use Rattle.std.proofs.Common.{◌≡◌, ◌+◌, ◌∙◌, ap, sym, arith, length}
use Rattle.std.specs.Prelude.{None, Some}
use Rattle.vm_guest.specs.Start.{started}
use Rattle.vm_pool.specs.Changes.{started_at}
use Rattle.vm_pool.specs.Pool.{PoolView, held_by}
use Rattle.vm_pool.specs.Slots.{config_in, guest_in}
use Rattle.vm_pool.proofs.MoveLemmas.{aside-added}
use Rattle.vm_pool.proofs.PoolLemmas.{enough-to-start, guest-here, pool-moved, room-here, room-there, settled-at, starts-at, stopped-here, view-started, within-slots}
use Rattle.vm_pool.proofs.pool.Pool.start.Goals as goal

pub start-requires-clause-stopped : goal.start-requires-clause-stopped
start-requires-clause-stopped c =
    let p = c.self.inside in
    let i = c.args.position in
    let was = c.index_mut.result.now in
    let there = within-slots p c.args.self.now i c.self.view_is c.requires.within in
    let here = guest-here p c.args.self.now i was c.self.view_is there c.index_mut.ensures.value in
    stopped-here was (settled-at p i was c.self.invariant there c.index_mut.ensures.value) (sym here ∙ c.requires.stopped)

pub start-requires-clause-room : goal.start-requires-clause-room
start-requires-clause-room c =
    let p = c.self.inside in
    let i = c.args.position in
    let there = within-slots p c.args.self.now i c.self.view_is c.requires.within in
    room-here p c.args.self.now i c.index_mut.result.now c.args.room c.self.view_is there c.index_mut.ensures.value c.requires.room

pub start-requires-clause-enough : goal.start-requires-clause-enough
start-requires-clause-enough c =
    let p = c.self.inside in
    let i = c.args.position in
    let there = within-slots p c.args.self.now i c.self.view_is c.requires.within in
    let enough = enough-to-start p c.args.self.now i c.index_mut.result.now c.self.view_is there c.index_mut.ensures.value c.requires.enough in
    let within = c.self.invariant.within in
    omega (arith, enough, within)

pub take_frames-requires-clause-enough : goal.take_frames-requires-clause-enough
take_frames-requires-clause-enough c =
    let p = c.self.inside in
    let i = c.args.position in
    let was = c.index_mut.result.now in
    let there = within-slots p c.args.self.now i c.self.view_is c.requires.within in
    let here = guest-here p c.args.self.now i was c.self.view_is there c.index_mut.ensures.value in
    let enough = enough-to-start p c.args.self.now i was c.self.view_is there c.index_mut.ensures.value c.requires.enough in
    let nothing = ap held_by (sym here ∙ c.requires.stopped) in
    let held = ap held_by c.start.ensures.guest in
    let count = c.start.ensures.count in
    let total = c.start.ensures.total in
    let within = c.self.invariant.within in
    omega (arith, enough, nothing, held, count, total, within)

pub take_frames-requires-clause-room : goal.take_frames-requires-clause-room
take_frames-requires-clause-room c =
    let p = c.self.inside in
    let i = c.args.position in
    let was = c.index_mut.result.now in
    let there = within-slots p c.args.self.now i c.self.view_is c.requires.within in
    let here = guest-here p c.args.self.now i was c.self.view_is there c.index_mut.ensures.value in
    let enough = enough-to-start p c.args.self.now i was c.self.view_is there c.index_mut.ensures.value c.requires.enough in
    let room = room-there p i was c.self.invariant there c.index_mut.ensures.value (sym here ∙ c.requires.stopped) enough in
    let long = p.aside.ok in
    omega (arith, room, long)

-- how many more frames are set aside
pub invariant_of-self : goal.invariant_of-self
invariant_of-self c =
    let p = c.self.inside in
    let i = c.args.position in
    let was = c.index_mut.result.now in
    let there = within-slots p c.args.self.now i c.self.view_is c.requires.within in
    let here = guest-here p c.args.self.now i was c.self.view_is there c.index_mut.ensures.value in
    let none : guest_in was ≡ None = sym here ∙ c.requires.stopped in
    let enough = enough-to-start p c.args.self.now i was c.self.view_is there c.index_mut.ensures.value c.requires.enough in
    let more : length c.take_frames.new.frames.items ≡ length p.aside.items + p.overhead = omega (arith, c.take_frames.ensures.taken, c.take_frames.new.frames.ok, p.aside.ok) in
    let aside = aside-added p.aside.items c.take_frames.new.frames.items p.overhead _ _ c.take_frames.ensures.added c.take_frames.ensures.count more in
    let moves = starts-at p i was c.start.new.slot c.start.new.machine c.take_frames.new.machine c.take_frames.new.frames.items c.self.invariant there c.index_mut.ensures.value none c.start.ensures aside more enough in
    pool-moved p i was c.start.new.slot c.start.new.machine c.take_frames.new.machine c.take_frames.new.frames (Some (started (config_in was))) c.self.invariant moves c.take_frames.ensures.capacity

pub returns : goal.returns
returns c =
    let p = c.self.inside in
    let i = c.args.position in
    let was = c.index_mut.result.now in
    let there = within-slots p c.args.self.now i c.self.view_is c.requires.within in
    let here = guest-here p c.args.self.now i was c.self.view_is there c.index_mut.ensures.value in
    let none : guest_in was ≡ None = sym here ∙ c.requires.stopped in
    let enough = enough-to-start p c.args.self.now i was c.self.view_is there c.index_mut.ensures.value c.requires.enough in
    let more : length c.take_frames.new.frames.items ≡ length p.aside.items + p.overhead = omega (arith, c.take_frames.ensures.taken, c.take_frames.new.frames.ok, p.aside.ok) in
    let aside = aside-added p.aside.items c.take_frames.new.frames.items p.overhead _ _ c.take_frames.ensures.added c.take_frames.ensures.count more in
    let moves = starts-at p i was c.start.new.slot c.start.new.machine c.take_frames.new.machine c.take_frames.new.frames.items c.self.invariant there c.index_mut.ensures.value none c.start.ensures aside more enough in
    view-started p i was c.start.new.slot c.start.new.machine c.take_frames.new.machine c.take_frames.new.frames none moves more
    ∙ ap (λ (v : PoolView). started_at v i) c.self.view_is
