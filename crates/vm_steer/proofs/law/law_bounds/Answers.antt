use Rattle.vm_steer.specs.Fold.{last_told}
use Rattle.vm_steer.proofs.BoundLemmas.{bounds}
use Rattle.vm_steer.proofs.law.law_bounds.Goals as goal

pub returns : goal.returns
returns c = λ policy samples domains is. bounds policy (last_told policy samples) domains is
