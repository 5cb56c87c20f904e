use Rattle.std.proofs.Common.{Some, ap, ◌∙◌, sym}
use Rattle.std.specs.Prelude.{option_map}
use Rattle.vm_sweep.specs.SweptRuns.{measured, median_at}
use Rattle.vm_sweep.specs.declared.median.OverSeeds.{OverSeeds}
use Rattle.vm_sweep.specs.declared.points.SweptPoint.{SweptPoint}
use Rattle.vm_sweep.proofs.SweepLemmas.{one_more}
use Rattle.vm_sweep.proofs.points.values_of.Goals as goal

pub loop-machine-preserved : goal.loop-machine-preserved
loop-machine-preserved c =
    let at = c.args in
    one_more (median_at at.measure at.points.now at.curves at.curve) c.loop-machine.machine _ _ _ c.loop-machine.invariant
    (ap (option_map (λ (p : SweptPoint). (measured at.measure p).median)) c.point_at-point.ensures
    ∙ ap (λ (o : OverSeeds). Some o.median) (sym c.measured.ensures)) c.in_ok-push.ensures.items
