use Rattle.vm_steer.specs.Fold.{last_told}
use Rattle.vm_steer.proofs.BoundLemmas.{fair}
use Rattle.vm_steer.proofs.law.law_fairness.Goals as goal

pub returns : goal.returns
returns c = λ policy samples domains is. fair policy (last_told policy samples) domains is
