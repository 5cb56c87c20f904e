use Rattle.std.proofs.Common.{arith}
use Rattle.vm_recorded.proofs.StepLemmas.{epochs_next}
use Rattle.vm_recorded.proofs.commands.push_epochs.Goals as goal

pub loop-at-preserved : goal.loop-at-preserved
loop-at-preserved c =
    epochs_next c.args.unit c.loop-at.at c.args.epochs c.args.guests.now c.loop-at.text.items c.push_all_going.new.text.items
    c.push_all_coming.new.text.items _ (omega arith) c.in_ok-push_all_going.ensures c.in_ok-push_all_coming.ensures c.loop-at.invariant
