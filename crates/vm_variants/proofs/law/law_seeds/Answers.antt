use Rattle.vm_variants.proofs.SettingLemmas.{seeds-limits, seeds-none, seeds-sum}
use Rattle.vm_variants.proofs.law.law_seeds.Goals as goal

pub returns-clause-sum : goal.returns-clause-sum
returns-clause-sum c = seeds-sum

pub returns-clause-limits : goal.returns-clause-limits
returns-clause-limits c = seeds-limits

pub returns-clause-none : goal.returns-clause-none
returns-clause-none c = seeds-none
