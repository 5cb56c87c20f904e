use Rattle.vm_sweep.proofs.OrderLemmas.{in_order-moved, in_order-non_decreasing}
use Rattle.vm_sweep.proofs.law.law_in_order.Goals as goal

pub returns-clause-same : goal.returns-clause-same
returns-clause-same c numbers = in_order-moved numbers

pub returns-clause-order : goal.returns-clause-order
returns-clause-order c numbers = in_order-non_decreasing numbers
