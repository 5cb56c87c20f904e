use Rattle.vm_runs.proofs.WaitLemmas.{leaves_another, no_law}
use Rattle.vm_runs.proofs.law.law_boundary_waits.Goals as goal

pub returns-clause-host : goal.returns-clause-host
returns-clause-host c = leaves_another

pub returns-clause-law : goal.returns-clause-law
returns-clause-law c = no_law
