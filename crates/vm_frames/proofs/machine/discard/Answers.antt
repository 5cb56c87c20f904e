use Rattle.std.proofs.Common.{arith}
use Rattle.vm_frames.proofs.machine.discard.Goals as goal

pub loop-frame-smaller : goal.loop-frame-smaller
loop-frame-smaller c = let one = c.in-Some.ensures.cases in omega arith

pub destroy_empty-requires : goal.destroy_empty-requires
destroy_empty-requires c = c.in_default.ensures.cases.1
