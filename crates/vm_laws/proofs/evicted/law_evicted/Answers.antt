use Rattle.vm_laws.proofs.EvictedLemmas.{adds-up_rows}
use Rattle.vm_laws.proofs.evicted.law_evicted.Goals as goal

pub returns : goal.returns
returns c config = adds-up_rows config
