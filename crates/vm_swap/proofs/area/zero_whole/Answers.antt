use Rattle.vm_swap.specs.Area.{zero_bytes}
use Rattle.vm_swap.proofs.area.zero_whole.Goals as goal

pub returns-then-is_some-clause-zeroed : goal.returns-then-is_some-clause-zeroed
unfolding zero_bytes
returns-then-is_some-clause-zeroed c = c.set.ensures.written
