use Rattle.std.proofs.Common.{arith}
use Rattle.std.specs.FinMap.{empty}
use Rattle.vm_swap.proofs.Merged.{merged-empty}
use Rattle.vm_swap.proofs.Parted.{parted_empty}
use Rattle.vm_swap.proofs.area.SwapArea.new.Goals as goal

pub invariant_of-result : goal.invariant_of-result
invariant_of-result c =
    let needed = rw c.usable-2.ensures at c.roomy.ensures in
    parted_empty c.args.slots c.in_ok-new.field-0 c.in_ok-new-2.field-0 c.in_ok-new.ensures.values c.in_ok-new-2.ensures.values (omega arith)
    (rw c.usable.ensures at c.in_ok-new.ensures.room) (omega (arith, needed, c.in_ok-new-2.ensures.room))

pub returns : goal.returns
returns c =
    rw (c.in_ok-new.ensures.values, c.in_ok-new-2.ensures.values) (λ i. record { pages = merged-empty empty i; capacity = c.args.slots })
