use Rattle.std.proofs.Common.{rules}
use Rattle.vm_trace.proofs.InFront.{touches_entered}
use Rattle.vm_trace.proofs.plain.touches.Goals as goal

pub returns : goal.returns
returns c = λ bytes. touches_entered c.args.limits c.args.rest.now bytes c.in_ok-row.row.page c.in_ok-row.row.count (search rules) (search rules)
