use Rattle.vm_drawing.proofs.StackedLemmas.{stacked}
use Rattle.vm_drawing.proofs.law.law_stacked.Goals as goal

pub returns : goal.returns
returns c along axis y charts words = stacked along axis y charts words
