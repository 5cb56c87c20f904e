use Rattle.std.proofs.Common.{inr}
use Rattle.vm_programs.proofs.vmsweep.words.complain.Goals as goal

-- memory was refused
pub returns-then-is_memory : goal.returns-then-is_memory
returns-then-is_memory g c = inr ((assumption), c.is_memory.ensures.0 c.if-is_memory.true)
