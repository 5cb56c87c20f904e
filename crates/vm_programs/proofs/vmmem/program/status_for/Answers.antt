use Rattle.vm_programs.proofs.lemmas.vmmem.Status.{refused-by}
use Rattle.vm_programs.proofs.vmmem.program.status_for.Goals as goal

pub returns-clause-refused : goal.returns-clause-refused
returns-clause-refused g c =
    refused-by _ _ _ _ _ _ _ c.complain.result c.in-Err-run.error c.complain.ensures c.in-Err-run.ensures.failed
