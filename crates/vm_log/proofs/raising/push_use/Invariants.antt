use Rattle.std.proofs.Common.{◌≡◌, ◌++◌, ◌≤◌, None, replicate}
use Rattle.vm_log.proofs.raising.push_use.Given as goal

-- those that are left complete it
abbrev pub invariant-loop-left : goal.invariant-loop-left
invariant-loop-left l = l.uses.items ++ replicate l.left None ≡ l.fn.uses.items ++ replicate l.gap None

abbrev pub decreases-loop-left : goal.decreases-loop-left
decreases-loop-left l = l.left
