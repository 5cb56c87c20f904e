use Rattle.vm_variants.proofs.SettingLemmas.{percent-limits}
use Rattle.vm_variants.proofs.law.law_percent.Goals as goal

pub returns-clause-limits : goal.returns-clause-limits
returns-clause-limits c = percent-limits
