use Rattle.std.proofs.Common.{arith}
use Rattle.vm_trace.proofs.Numbers.{IsDecimal-below_ten}
use Rattle.vm_trace.proofs.plain.decimal.Goals as goal

pub returns-then-value-lt10 : goal.returns-then-value-lt10
returns-then-value-lt10 c =
    let byte = c.from.ensures in
    let zero = c.from-2.ensures in
    let fits = c.ranges.byte.fits in
    let below = c.if-value-lt10.true in
    IsDecimal-below_ten c.args.byte _ (omega arith) (omega arith) (omega arith)
