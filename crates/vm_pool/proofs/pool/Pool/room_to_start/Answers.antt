use Rattle.std.proofs.Common.{◌∙◌, sym}
use Rattle.vm_pool.proofs.PoolLemmas.{guest-here, room-of, settled-at, stopped-here, within-slots}
use Rattle.vm_pool.proofs.pool.Pool.room_to_start.Goals as goal

pub room_to_start-requires : goal.room_to_start-requires
room_to_start-requires c =
    let p = c.self.inside in
    let i = c.args.position in
    let was = c.index.result.now in
    let there = within-slots p c.args.self.now i c.self.view_is c.requires.within in
    let here = guest-here p c.args.self.now i was c.self.view_is there c.index.ensures in
    stopped-here was (settled-at p i was c.self.invariant there c.index.ensures) (sym here ∙ c.requires.stopped)

pub returns : goal.returns
returns c =
    let there = within-slots c.self.inside c.args.self.now c.args.position c.self.view_is c.requires.within in
    room-of c.self.inside c.args.self.now c.args.position c.index.result.now c.room_to_start.result c.self.view_is there c.index.ensures c.room_to_start.ensures
