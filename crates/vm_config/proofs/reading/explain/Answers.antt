use Rattle.vm_config.proofs.FirstLemmas.{told_guest}
use Rattle.vm_config.proofs.PlaceLemmas.{told_error}
use Rattle.vm_config.proofs.reading.explain.Goals as goal

pub returns-clause-error : goal.returns-clause-error
returns-clause-error c = told_error c.args.bytes.now c.first_fault.result c.first_fault.ensures

pub returns-clause-guest : goal.returns-clause-guest
returns-clause-guest c = told_guest c.args.bytes.now c.first_fault.result c.first_fault.ensures
