use Rattle.std.proofs.Common.{rules, sym, ◌∙◌, ◌<◌, length}
use Rattle.vm_sim.proofs.PositionLemmas.{next_start, no_start}
use Rattle.vm_sim.proofs.agenda.push_starts.Goals as goal
use Rattle.vm_sim.proofs.agenda.push_starts.Goals.{then-starts_by_itself+in_ok-push_start, else-starts_by_itself}

pub loop-position-preserved : goal.loop-position-preserved
loop-position-preserved c =
    let within : c.loop-position.position < length c.args.host.now.names = search rules in
    let flag = sym c.starts_by_itself.ensures in
    elim c.if-starts_by_itself.branch [
      | then-starts_by_itself+in_ok-push_start w ↦
          next_start c.args.host.now.names c.args.flags.now c.loop-position.position within _ _ _ c.loop-position.invariant
          (flag ∙ w.if-starts_by_itself.true) (w.lines-is ∙ w.in_ok-push_start.ensures)
      | else-starts_by_itself w ↦
          no_start c.args.host.now.names c.args.flags.now c.loop-position.position within _ _ _ c.loop-position.invariant
          (flag ∙ w.if-starts_by_itself.false) w.lines-is
    ]
