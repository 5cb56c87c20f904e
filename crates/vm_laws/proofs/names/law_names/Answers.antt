use Rattle.vm_laws.proofs.NameLemmas.{plain-names}
use Rattle.vm_laws.proofs.names.law_names.Goals as goal

pub returns : goal.returns
returns c = plain-names
