use Rattle.std.proofs.Common.{rules}
use Rattle.vm_trace.proofs.InFront.{frees_entered}
use Rattle.vm_trace.proofs.plain.frees.Goals as goal

pub returns : goal.returns
returns c = λ bytes. frees_entered c.args.limits c.args.rest.now bytes c.in_ok-row.row.page c.in_ok-row.row.count (search rules) (search rules)
