use Rattle.vm_tally.proofs.ColumnLemmas.{stretches-added}
use Rattle.vm_tally.proofs.guest_moves.add_plan.Goals as goal

pub returns : goal.returns
returns c = stretches-added c.stretches.result.now c.args.plan.now c.args.column.now _ c.stretches.ensures.moves c.add_stretches.ensures
