use Rattle.std.proofs.Common.{◌-◌}
use Rattle.vm_trace.proofs.Gathered.{Gathers}
use Rattle.vm_trace.proofs.parse.steps_of.Given as goal

abbrev pub invariant-loop-left : goal.invariant-loop-left
invariant-loop-left l = Gathers l.text l.words l.count l.left

abbrev pub decreases-loop-left : goal.decreases-loop-left
decreases-loop-left l = 4 - l.count
