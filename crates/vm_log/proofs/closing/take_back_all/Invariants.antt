use Rattle.std.proofs.Common.{◌≡◌, ◌≤◌, ◌++◌, drop, length, take}
use Rattle.vm_log.specs.Steps.{all_taken_back}
use Rattle.vm_log.proofs.closing.take_back_all.Given as goal

-- those from the place on are done
abbrev pub invariant-loop-place : goal.invariant-loop-place
invariant-loop-place l = record {
  few : l.place ≤ length l.kept;
  done : l.guests.items ≡ take l.place l.fn.guests.items ++ all_taken_back l.policy.most (drop l.place l.kept) (drop l.place l.fn.guests.items);
}

abbrev pub decreases-loop-place : goal.decreases-loop-place
decreases-loop-place l = l.place
