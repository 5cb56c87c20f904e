use Rattle.vm_variants.proofs.TextLemmas.{root-means, text-means}
use Rattle.vm_variants.proofs.WitnessLemmas.{witness}
use Rattle.vm_variants.proofs.law.law_text.Goals as goal

pub returns-clause-roots : goal.returns-clause-roots
returns-clause-roots c = root-means

pub returns-clause-texts : goal.returns-clause-texts
returns-clause-texts c = text-means

pub returns-clause-some : goal.returns-clause-some
returns-clause-some c = witness
