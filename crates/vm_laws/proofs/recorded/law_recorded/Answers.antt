use Rattle.vm_laws.proofs.RecordedLawLemmas.{guest-steps, host-read}
use Rattle.vm_laws.proofs.recorded.law_recorded.Goals as goal

pub returns-clause-read : goal.returns-clause-read
returns-clause-read c = host-read

pub returns-clause-steps : goal.returns-clause-steps
returns-clause-steps c = guest-steps
