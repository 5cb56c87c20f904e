use Rattle.vm_pool.proofs.PoolLemmas.{room-of, within-slots}
use Rattle.vm_pool.proofs.pool.Pool.take_room.Goals as goal

pub returns-clause-room : goal.returns-clause-room
returns-clause-room c =
    let there = within-slots c.self.inside c.args.self.now c.args.position c.self.view_is c.requires.within in
    room-of c.self.inside c.args.self.now c.args.position c.index.result.now c.take_room.result c.self.view_is there c.index.ensures c.take_room.ensures
