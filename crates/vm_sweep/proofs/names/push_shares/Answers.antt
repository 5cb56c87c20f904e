use Rattle.vm_sweep.specs.declared.names.Part.TheVariants.{Shares}
use Rattle.vm_sweep.proofs.SpreadLemmas.{next-in_range}
use Rattle.vm_sweep.proofs.names.push_shares.Goals as goal

pub loop-number-preserved : goal.loop-number-preserved
loop-number-preserved c = next-in_range Shares c.loop-number.number _ _ _ c.loop-number.invariant c.in_ok-push.ensures.items
