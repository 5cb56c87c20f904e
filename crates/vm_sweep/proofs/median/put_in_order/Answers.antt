use Rattle.std.proofs.lemmas.List.Sorted.{IsNonDecreasingBy-from_sort}
use Rattle.vm_sweep.proofs.OrderLemmas.{ordered}
use Rattle.vm_sweep.proofs.median.put_in_order.Goals as goal

pub returns : goal.returns
returns c = ordered _ _ c.sort_unstable.ensures.permutation (IsNonDecreasingBy-from_sort (λ x. x) _ c.sort_unstable.ensures.sorted)
