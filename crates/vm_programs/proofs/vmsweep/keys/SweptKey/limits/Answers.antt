use Rattle.std.proofs.Common.{refl}
use Rattle.vm_programs.specs.vmsweep.Keys.{limits_of}
use Rattle.vm_programs.proofs.vmsweep.keys.SweptKey.limits.Goals as goal

pub returns-in-Tax : goal.returns-in-Tax
unfolding limits_of
returns-in-Tax c = rw c.in-Tax.is refl
