use Rattle.std.proofs.Common.{sym}
use Rattle.vm_sweep.proofs.reading.judged.Goals as goal

pub returns-in-Err-clause-fault : goal.returns-in-Err-clause-fault
returns-in-Err-clause-fault c = (tt, (c.args.config, c.requires, sym c.in-Err.ensures.refusal))
