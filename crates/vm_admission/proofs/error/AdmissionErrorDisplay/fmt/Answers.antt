use Rattle.vm_admission.proofs.error.AdmissionErrorDisplay.fmt.Goals as goal

pub returns-in-NoSwap-clause-writes : goal.returns-in-NoSwap-clause-writes
returns-in-NoSwap-clause-writes g c = rw c.in-NoSwap.is c.write-in-NoSwap.ensures.writes
