use Rattle.std.proofs.Common.{rules}
use Rattle.vm_pool.proofs.LowerLemmas.{can-lower_there, lower-there, pool-lowered, view-lowered, CanLose}
use Rattle.vm_pool.proofs.pool.Pool.revoke.Goals as goal

pub index_mut-requires : goal.index_mut-requires
index_mut-requires c =
    let there = lower-there c.args.count c.self.inside c.args.self.now c.args.position (record { good = c.self.invariant; is = c.self.view_is; some = c.if-count-gt0.true; can = c.requires }) in
    search rules

pub revoke-requires : goal.revoke-requires
revoke-requires c =
    let loses : CanLose c.args.count c.self.inside c.args.self.now c.args.position = record { good = c.self.invariant; is = c.self.view_is; some = c.if-count-gt0.true; can = c.requires } in
    can-lower_there c.args.count c.self.inside c.args.self.now c.args.position loses c.index_mut.result.now c.index_mut.ensures.value

pub invariant_of-self : goal.invariant_of-self
invariant_of-self c =
    let loses : CanLose c.args.count c.self.inside c.args.self.now c.args.position = record { good = c.self.invariant; is = c.self.view_is; some = c.if-count-gt0.true; can = c.requires } in
    pool-lowered c.args.count c.self.inside c.args.self.now c.args.position loses c.index_mut.result.now c.index_mut.ensures.value c.revoke.new.slot c.revoke.ensures

pub returns-then-count-gt0 : goal.returns-then-count-gt0
returns-then-count-gt0 c =
    let loses : CanLose c.args.count c.self.inside c.args.self.now c.args.position = record { good = c.self.invariant; is = c.self.view_is; some = c.if-count-gt0.true; can = c.requires } in
    view-lowered c.args.count c.self.inside c.args.self.now c.args.position loses c.index_mut.result.now c.index_mut.ensures.value c.revoke.new.slot c.revoke.ensures
