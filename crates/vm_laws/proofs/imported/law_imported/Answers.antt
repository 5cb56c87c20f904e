use Rattle.vm_laws.proofs.LawLemmas.{text-imported, text-read, trace-means}
use Rattle.vm_laws.proofs.imported.law_imported.Goals as goal

pub returns-clause-written : goal.returns-clause-written
returns-clause-written c = text-imported

pub returns-clause-read : goal.returns-clause-read
returns-clause-read c = text-read

pub returns-clause-steps : goal.returns-clause-steps
returns-clause-steps c = trace-means
