use Rattle.vm_swap.proofs.Kept.{kept_empty}
use Rattle.vm_swap.proofs.table.Table.new.Goals as goal

pub invariant_of-result : goal.invariant_of-result
invariant_of-result g c = kept_empty _ _ c.in_ok-with_capacity.ensures.items c.in_ok-new.ensures
