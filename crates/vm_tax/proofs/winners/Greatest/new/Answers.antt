use Rattle.std.proofs.Common.{ap}
use Rattle.vm_tax.specs.Tree.{Ranking}
use Rattle.vm_tax.proofs.winners.Greatest.new.Goals as goal

pub invariant_of-result : goal.invariant_of-result
invariant_of-result c = ap (λ (t : Ranking). t.order) c.in_ok-tree.ensures.tree
