use Rattle.std.proofs.Common.{◌≡◌, ◌++◌, drop, length, take}
use Rattle.vm_log.specs.Steps.{raised_all}
use Rattle.vm_log.proofs.raising.raise_all.Given as goal

-- those in front of the next are done
abbrev pub invariant-loop-place : goal.invariant-loop-place
invariant-loop-place l = record {
  ends : l.place-end ≡ length l.fn.guests;
  done : l.guests ≡ take l.place (raised_all l.policy.most l.epoch l.entries l.kept l.fn.guests) ++ drop l.place l.fn.guests;
}
