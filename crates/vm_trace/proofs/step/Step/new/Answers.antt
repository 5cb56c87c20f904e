use Rattle.std.proofs.Common.{refl}
use Rattle.vm_trace.proofs.step.Step.new.Goals as goal

pub returns : goal.returns
returns c = refl
