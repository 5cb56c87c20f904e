use Rattle.std.proofs.Common.{◌≡◌, ◌≤◌, ◌∙◌, ap, length, arith, vec_capacity}
use Rattle.vm_pool.specs.declared.pool.Pool.TheInside.{Inside}
use Rattle.vm_pool.specs.Pool.{most_aside}
use Rattle.vm_pool.proofs.PoolLemmas.{first-is_pool, first-view}
use Rattle.vm_pool.proofs.pool.Pool.with_shelf.Goals as goal

pub invariant_of-result : goal.invariant_of-result
invariant_of-result c =
    let fits = c.ranges.frames.fits in
    let few : length c.args.specs.items ≤ 256 = omega (arith, c.requires.few, c.args.specs.ok) in
    let guests : c.len-4.result ≡ length c.args.specs.items = omega (arith, c.len-4.ensures, c.args.specs.ok) in
    let most : c.most_aside-most.result ≡ most_aside c.args.overhead (length c.args.specs.items) c.args.frames =
    c.most_aside-most.ensures ∙ ap (λ n. most_aside c.args.overhead n c.args.frames) guests in
    let room : most_aside c.args.overhead (length c.args.specs.items) c.args.frames ≤ vec_capacity c.in-Ok-with_capacity-2.aside =
    omega (arith, most, c.in-Ok-with_capacity-2.ensures.capacity) in
    let home : length c.args.specs.items ≤ vec_capacity c.stopped-slots.new.specs = omega (arith, c.stopped-slots.ensures.room, c.args.specs.ok) in
    first-is_pool _ c.args.frames c.args.specs.items fits few c.stopped-slots.ensures.slots c.in-Ok-with_capacity-2.ensures.items room c.in-Ok-new.ensures
    c.stopped-slots.ensures.none home

pub returns-clause-first : goal.returns-clause-first
returns-clause-first c =
    let p : Inside = record { machine = c.in-Ok-new.machine; overhead = c.args.overhead; aside = c.in-Ok-with_capacity-2.aside; slots = c.stopped-slots.result; specs = c.stopped-slots.new.specs; shelf = c.reserve.new.self } in
    first-view p c.args.frames c.args.specs.items c.stopped-slots.ensures.slots c.in-Ok-new.ensures
