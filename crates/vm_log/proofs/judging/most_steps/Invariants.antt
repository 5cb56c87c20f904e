use Rattle.std.proofs.Common.{◌≡◌, drop, max}
use Rattle.vm_log.specs.Judging.{steps_of}
use Rattle.vm_log.proofs.judging.most_steps.Given as goal

-- those that are left complete it
abbrev pub invariant-loop-count : goal.invariant-loop-count
invariant-loop-count l = max l.most (steps_of (drop l.count-index l.counts)) ≡ steps_of l.counts
