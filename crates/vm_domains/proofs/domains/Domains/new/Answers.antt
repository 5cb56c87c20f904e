use Rattle.vm_domains.proofs.StepLemmas.{domains_of-none, paired-none}
use Rattle.vm_domains.proofs.domains.Domains.new.Goals as goal

-- `assumption` finds what `new` ensures, under any name of its result
pub invariant_of-result : goal.invariant_of-result
invariant_of-result c = paired-none _ _ (assumption) (assumption)

pub returns : goal.returns
returns c = domains_of-none _ _ (assumption)
