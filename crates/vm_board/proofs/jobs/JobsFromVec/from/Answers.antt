use Rattle.std.proofs.Common.{refl}
use Rattle.vm_board.proofs.jobs.JobsFromVec.from.Goals as goal

pub returns : goal.returns
returns g c = refl
