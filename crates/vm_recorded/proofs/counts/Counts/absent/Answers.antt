use Rattle.std.proofs.Common.{arith}
use Rattle.vm_recorded.proofs.CountLemmas.{absent_none, absent_parts}
use Rattle.vm_recorded.proofs.counts.Counts.absent.Goals as goal

pub returns-then-epochs-eq0 : goal.returns-then-epochs-eq0
returns-then-epochs-eq0 c = absent_none c.args.epochs c.args.self c.if-epochs-eq0.true

pub returns : goal.returns
returns c =
    absent_parts c.args.epochs c.args.self c.from.result c.max.result c.from-2.result (omega arith) c.from.ensures c.max.ensures c.from-2.ensures
