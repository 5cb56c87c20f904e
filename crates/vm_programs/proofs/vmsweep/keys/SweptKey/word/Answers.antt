use Rattle.std.proofs.Common.{refl}
use Rattle.vm_programs.specs.vmsweep.Keys.{word_of}
use Rattle.vm_programs.proofs.vmsweep.keys.SweptKey.word.Goals as goal

pub returns-in-Swap : goal.returns-in-Swap
unfolding word_of
returns-in-Swap c = rw c.in-Swap.is refl
