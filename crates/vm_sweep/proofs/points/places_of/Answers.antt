use Rattle.std.proofs.Common.{ap, ◌∙◌, sym}
use Rattle.vm_sweep.specs.SweptRuns.{place_of, point_at}
use Rattle.vm_sweep.proofs.SweepLemmas.{one_more}
use Rattle.vm_sweep.proofs.points.places_of.Goals as goal

pub loop-machine-preserved : goal.loop-machine-preserved
loop-machine-preserved c =
    let at = c.args in
    one_more (λ machine. place_of (point_at at.points.now at.curves machine at.curve)) c.loop-machine.machine _ _ _ c.loop-machine.invariant
    (ap place_of c.point_at-point.ensures ∙ sym c.from.ensures) c.in_ok-push.ensures.items
