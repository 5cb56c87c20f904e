use Rattle.std.proofs.Common.{rules}
use Rattle.vm_pool.proofs.GrowLemmas.{can-grow_there, frames-there, pool-grown, slot-there, view-grown, AsksFor}
use Rattle.vm_pool.proofs.PoolLemmas.{holds-out, settled-at}
use Rattle.vm_pool.proofs.pool.Pool.grant.Goals as goal

pub index_mut-requires : goal.index_mut-requires
index_mut-requires c =
    let there = slot-there c.args.count c.self.inside c.args.self.now c.args.position (record { good = c.self.invariant; is = c.self.view_is; some = c.if-count-gt0.true; can = c.requires }) in
    search rules

pub grant-requires : goal.grant-requires
grant-requires c =
    let p = c.self.inside in
    let i = c.args.position in
    let was = c.index_mut.result.now in
    let at = c.index_mut.ensures.value in
    let asks : AsksFor c.args.count p c.args.self.now i = record { good = c.self.invariant; is = c.self.view_is; some = c.if-count-gt0.true; can = c.requires } in
    let grows = can-grow_there c.args.count p c.args.self.now i asks was at in
    record {
      demand = grows.demand;
      room = grows.room;
      enough = frames-there c.args.count p c.args.self.now i asks was at;
      settled = settled-at p i was c.self.invariant (slot-there c.args.count p c.args.self.now i asks) at;
      out = holds-out p i was c.self.invariant (slot-there c.args.count p c.args.self.now i asks) at;
    }

pub invariant_of-self : goal.invariant_of-self
invariant_of-self c =
    let asks : AsksFor c.args.count c.self.inside c.args.self.now c.args.position = record { good = c.self.invariant; is = c.self.view_is; some = c.if-count-gt0.true; can = c.requires } in
    pool-grown c.args.count c.self.inside c.args.self.now c.args.position asks c.index_mut.result.now c.index_mut.ensures.value c.grant.new.slot c.grant.new.machine c.grant.ensures

pub returns-then-count-gt0 : goal.returns-then-count-gt0
returns-then-count-gt0 c =
    let asks : AsksFor c.args.count c.self.inside c.args.self.now c.args.position = record { good = c.self.invariant; is = c.self.view_is; some = c.if-count-gt0.true; can = c.requires } in
    view-grown c.args.count c.self.inside c.args.self.now c.args.position asks c.index_mut.result.now c.index_mut.ensures.value c.grant.new.slot c.grant.new.machine c.grant.ensures
