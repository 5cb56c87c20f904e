use Rattle.std.proofs.Common.{ap, sym}
use Rattle.vm_reclaim.specs.Reclaim.{blocks_in}
use Rattle.vm_reclaim.proofs.reclaim.blocks_in.Goals as goal

pub returns-in-Low : goal.returns-in-Low
returns-in-Low c = sym (ap blocks_in c.in-Low.is)
