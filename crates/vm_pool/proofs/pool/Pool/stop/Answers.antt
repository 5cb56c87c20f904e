use Rattle.std.proofs.Common.{◌≡◌, ◌+◌, ◌∙◌, ap, subst, arith, length}
use Rattle.std.specs.Prelude.{IsSome, None}
use Rattle.vm_pool.specs.Changes.{stopped_at}
use Rattle.vm_pool.specs.Pool.{PoolView}
use Rattle.vm_pool.specs.Slots.{guest_in}
use Rattle.vm_pool.proofs.PoolLemmas.{aside-out, guest-here, holds-out, moved, overhead-there, pool-moved, pool-shelved, runs-within, stops-at, view-stopped}
use Rattle.vm_pool.proofs.pool.Pool.stop.Goals as goal

pub stop-room-requires-clause-out : goal.stop-room-requires-clause-out
stop-room-requires-clause-out c =
    let p = c.self.inside in
    holds-out p c.args.position c.index_mut.result.now c.self.invariant (runs-within p c.args.self.now c.args.position c.self.view_is c.requires) c.index_mut.ensures.value

pub put_back-requires-clause-few : goal.put_back-requires-clause-few
put_back-requires-clause-few c =
    let p = c.self.inside in
    let i = c.args.position in
    let was = c.index_mut.result.now in
    let there = (runs-within p c.args.self.now c.args.position c.self.view_is c.requires) in
    let runs : IsSome (guest_in was) = subst IsSome (guest-here p c.args.self.now i was c.self.view_is there c.index_mut.ensures.value) c.requires in
    let enough = overhead-there p i was c.self.invariant there c.index_mut.ensures.value runs in
    let long = p.aside.ok in
    omega (arith, enough, long)

pub put_back-requires-clause-out : goal.put_back-requires-clause-out
put_back-requires-clause-out c =
    let p = c.self.inside in
    aside-out p c.index_mut.result.now c.stop-room.new.slot c.args.position c.stop-room.new.machine c.self.invariant (runs-within p c.args.self.now c.args.position c.self.view_is c.requires) c.index_mut.ensures.value c.stop-room.ensures c.stop-room.ensures.guest

pub invariant_of-self : goal.invariant_of-self
invariant_of-self c =
    let p = c.self.inside in
    let i = c.args.position in
    let was = c.index_mut.result.now in
    let there = (runs-within p c.args.self.now c.args.position c.self.view_is c.requires) in
    let runs : IsSome (guest_in was) = subst IsSome (guest-here p c.args.self.now i was c.self.view_is there c.index_mut.ensures.value) c.requires in
    let fewer : length c.put_back.new.aside.items + p.overhead ≡ length p.aside.items = omega (arith, c.put_back.ensures.count, c.put_back.new.aside.ok, p.aside.ok) in
    pool-shelved (moved p i c.stop-room.new.slot c.put_back.new.machine c.put_back.new.aside) c.keep.new.self
    (pool-moved p i was c.stop-room.new.slot c.stop-room.new.machine c.put_back.new.machine c.put_back.new.aside None c.self.invariant
    (stops-at p i was c.stop-room.new.slot c.stop-room.new.machine c.put_back.new.machine c.put_back.new.aside.items c.self.invariant there c.index_mut.ensures.value runs c.stop-room.ensures c.put_back.ensures.moved fewer) c.put_back.ensures.room)

pub returns : goal.returns
returns c =
    let p = c.self.inside in
    let i = c.args.position in
    let was = c.index_mut.result.now in
    let there = (runs-within p c.args.self.now c.args.position c.self.view_is c.requires) in
    let runs : IsSome (guest_in was) = subst IsSome (guest-here p c.args.self.now i was c.self.view_is there c.index_mut.ensures.value) c.requires in
    let fewer : length c.put_back.new.aside.items + p.overhead ≡ length p.aside.items = omega (arith, c.put_back.ensures.count, c.put_back.new.aside.ok, p.aside.ok) in
    view-stopped p i was c.stop-room.new.slot c.stop-room.new.machine c.put_back.new.machine c.put_back.new.aside c.self.invariant
    (stops-at p i was c.stop-room.new.slot c.stop-room.new.machine c.put_back.new.machine c.put_back.new.aside.items c.self.invariant there c.index_mut.ensures.value runs c.stop-room.ensures c.put_back.ensures.moved fewer)
    fewer
    ∙ ap (λ (v : PoolView). stopped_at v i) c.self.view_is
