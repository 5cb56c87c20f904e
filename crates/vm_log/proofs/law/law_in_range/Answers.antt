use Rattle.vm_log.proofs.RangeLemmas.{in_range}
use Rattle.vm_log.proofs.RangeTextLemmas.{short}
use Rattle.vm_log.proofs.law.law_in_range.Goals as goal

pub returns-clause-range : goal.returns-clause-range
returns-clause-range c = in_range

pub returns-clause-short : goal.returns-clause-short
returns-clause-short c = short
