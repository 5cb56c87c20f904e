use Rattle.std.proofs.Common.{arith}
use Rattle.vm_swap.proofs.Merged.{len-merged}
use Rattle.vm_swap.proofs.area.SwapArea.len.Goals as goal

pub overflow_add-result : goal.overflow_add-result
overflow_add-result c =
    let kept = c.self.invariant in
    omega (arith, kept.within, kept.small, len-merged c.self.inside.whole.values c.self.inside.few.values kept.apart)

pub returns : goal.returns
returns c =
    rw (← c.self.view_is) (omega (arith, len-merged c.self.inside.whole.values c.self.inside.few.values c.self.invariant.apart))
