use Rattle.std.proofs.Common.{◌∙◌, ◌++◌, codes}
use Rattle.vm_sweep.specs.SweepDrawing.{note_of}
use Rattle.vm_sweep.proofs.charts.note_of.Goals as goal

pub returns : goal.returns
unfolding note_of
returns c = c.in_ok-note.ensures.ok ∙ (λ i. c.in_ok-runs.ensures i ++ (codes "; sums over all epochs; " ++ c.in_ok-words.ensures i))
