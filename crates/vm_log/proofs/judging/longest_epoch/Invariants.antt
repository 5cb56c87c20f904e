use Rattle.std.proofs.Common.{◌≡◌, drop, max}
use Rattle.vm_log.specs.Judging.{longest_of}
use Rattle.vm_log.proofs.judging.longest_epoch.Given as goal

-- those that are left complete it
abbrev pub invariant-loop-count : goal.invariant-loop-count
invariant-loop-count l = max l.most (longest_of (drop l.count-index l.counts)) ≡ longest_of l.counts
