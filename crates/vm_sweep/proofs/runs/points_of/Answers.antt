use Rattle.std.proofs.Common.{ap, ◌∙◌, sym}
use Rattle.vm_sweep.specs.SweptRuns.{point_of, runs_at}
use Rattle.vm_sweep.proofs.SweepLemmas.{one_more}
use Rattle.vm_sweep.proofs.runs.points_of.Goals as goal

pub loop-point-preserved : goal.loop-point-preserved
loop-point-preserved c =
    let at = c.args in
    one_more (λ point. point_of (runs_at at.runs.now at.seeds point)) c.loop-point.point _ _ _ c.loop-point.invariant
    (sym (c.in_ok-point_of.ensures ∙ ap point_of c.runs_at.ensures)) c.in_ok-push.ensures.items
