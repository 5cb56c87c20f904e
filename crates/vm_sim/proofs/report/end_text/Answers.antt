use Rattle.std.proofs.Common.{codes}
use Rattle.vm_sim.specs.Report.{lines_at_end}
use Rattle.vm_sim.proofs.PositionLemmas.{next_lines}
use Rattle.vm_sim.proofs.report.end_text.Goals as goal

pub loop-position-preserved : goal.loop-position-preserved
loop-position-preserved c =
    next_lines _ _ (codes "end\n") (lines_at_end c.args.host.now) c.loop-position.position c.in_ok-push_guest_at.ensures c.loop-position.invariant
