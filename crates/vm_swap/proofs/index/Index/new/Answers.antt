use Rattle.std.proofs.Common.{refl}
use Rattle.vm_swap.proofs.Marks.{slots_of-first, whole_of}
use Rattle.vm_swap.proofs.index.Index.new.Goals as goal

pub invariant_of-result : goal.invariant_of-result
invariant_of-result c = whole_of _ 262144 refl c.in_ok-new.ensures.table

pub returns : goal.returns
returns c = rw c.in_ok-new.ensures.table slots_of-first
