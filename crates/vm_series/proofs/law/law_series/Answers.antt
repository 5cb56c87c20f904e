use Rattle.vm_drawing.proofs.StackedLemmas.{stacked}
use Rattle.vm_series.proofs.SeriesLemmas.{series-has_words}
use Rattle.vm_series.specs.Series.{drawing_of}
use Rattle.vm_series.proofs.law.law_series.Goals as goal

pub returns : goal.returns
returns c s = stacked (drawing_of s).along (drawing_of s).axis 70 (drawing_of s).charts (series-has_words s)
