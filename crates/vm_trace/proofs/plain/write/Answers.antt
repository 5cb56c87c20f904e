use Rattle.std.proofs.Common.{rules}
use Rattle.vm_trace.proofs.InFront.{write_entered}
use Rattle.vm_trace.proofs.plain.write.Goals as goal

pub returns-clause-item : goal.returns-clause-item
returns-clause-item c =
    write_entered c.args.place.rest.now c.args.store.now.items c.keep_hex.new.store.items c.args.place.page c.args.place.offset c.in-Some.start
    (search rules) (search rules)
