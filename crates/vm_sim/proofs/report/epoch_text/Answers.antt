use Rattle.std.proofs.Common.{[]}
use Rattle.vm_sim.specs.Report.{shown_at}
use Rattle.vm_sim.proofs.PositionLemmas.{next_lines}
use Rattle.vm_sim.proofs.report.epoch_text.Goals as goal

pub loop-position-preserved : goal.loop-position-preserved
loop-position-preserved c =
    next_lines _ _ [] (shown_at c.args.host.now) c.loop-position.position c.in_ok-push_shown_at.ensures c.loop-position.invariant
