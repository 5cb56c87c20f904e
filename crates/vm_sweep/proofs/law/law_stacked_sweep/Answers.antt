use Rattle.vm_drawing.proofs.StackedLemmas.{stacked}
use Rattle.vm_sweep.proofs.SweepLemmas.{sweep-has_words}
use Rattle.vm_sweep.specs.SweepDrawing.{sweep_drawing}
use Rattle.vm_sweep.proofs.law.law_stacked_sweep.Goals as goal

pub returns : goal.returns
returns c lists page names points =
    let drawing = sweep_drawing lists page names points in
    stacked drawing.along drawing.axis 70 drawing.charts (sweep-has_words lists.seeds names points)
