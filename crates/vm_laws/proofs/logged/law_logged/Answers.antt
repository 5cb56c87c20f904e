use Rattle.vm_laws.proofs.LoggedLemmas.{log-read, samples-read}
use Rattle.vm_laws.proofs.logged.law_logged.Goals as goal

pub returns-clause-samples : goal.returns-clause-samples
returns-clause-samples c = samples-read

pub returns-clause-log : goal.returns-clause-log
returns-clause-log c = log-read
