use Rattle.vm_programs.proofs.lemmas.vmseries.Status.{refused-by}
use Rattle.vm_programs.proofs.vmseries.program.run_on.Goals as goal

pub returns-clause-refused : goal.returns-clause-refused
returns-clause-refused g c =
    refused-by _ _ _ _ _ c.in-Ok.text.items c.deref.result.now c.deref.ensures.value c.complain_of_text.result
    c.in-Err-write_run.error c.complain_of_text.ensures c.in-Err-write_run.ensures.failed c.in-Ok.ensures.text c.in-Ok.ensures.end
