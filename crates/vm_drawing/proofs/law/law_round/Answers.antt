use Rattle.vm_drawing.proofs.RoundLemmas.{least_round}
use Rattle.vm_drawing.proofs.law.law_round.Goals as goal

pub returns : goal.returns
returns c value small = least_round value small
