use Rattle.vm_import.specs.WorkingSets.{working_set}
use Rattle.vm_import.proofs.working_set.WorkingSet.new.Goals as goal

pub returns : goal.returns
unfolding working_set
returns c = λ i. record { pages = c.new.ensures.empty i; kept = c.new-3.ensures.items i }
