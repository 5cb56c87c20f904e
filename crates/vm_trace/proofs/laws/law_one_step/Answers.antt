use Rattle.vm_trace.proofs.Rows.{one_step}
use Rattle.vm_trace.proofs.laws.law_one_step.Goals as goal

pub returns : goal.returns
returns c = one_step
