use Rattle.vm_variants.specs.Changes.{changed}
use Rattle.vm_variants.proofs.RefusalLemmas.{changed-alike, first-alike}
use Rattle.vm_variants.proofs.RunLemmas.{changed-within, next, unchanged}
use Rattle.vm_variants.proofs.law.law_runs.Goals as goal

pub returns-clause-limits : goal.returns-clause-limits
returns-clause-limits c = changed-within

pub returns-clause-none : goal.returns-clause-none
returns-clause-none c = unchanged

pub returns-clause-next : goal.returns-clause-next
returns-clause-next c = next

pub returns-clause-refusals : goal.returns-clause-refusals
returns-clause-refusals c = λ first second config. first-alike second config (changed first config) (changed-alike first config)
