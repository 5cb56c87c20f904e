use Rattle.std.proofs.Common.{[]}
use Rattle.vm_drawing.proofs.PictureLemmas.{one_more}
use Rattle.vm_series.specs.Series.{evicted_curve}
use Rattle.vm_series.proofs.series.evicted_curves.Goals as goal

pub loop-position-preserved : goal.loop-position-preserved
loop-position-preserved c =
    one_more (evicted_curve c.args.series.now) c.loop-position.position [] _ _ c.loop-position.invariant c.in_ok-push_evicted.ensures
