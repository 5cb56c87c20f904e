use Rattle.vm_config.proofs.AsVersion3Lemmas.{text-means}
use Rattle.vm_config.proofs.AsVersion3Roots.{its-version, witness}
use Rattle.vm_config.proofs.migration.law_version_2.Goals as goal

pub returns-clause-means : goal.returns-clause-means
returns-clause-means c = text-means

pub returns-clause-some : goal.returns-clause-some
returns-clause-some c = λ keys guests found stand are. (witness keys guests found stand are, its-version keys guests found stand are)
