use Rattle.std.proofs.Common.{◌≡◌, ◌+◌, ◌++◌, drop, length, take}
use Rattle.vm_log.specs.Steps.{counted_all}
use Rattle.vm_log.specs.Told.{AreSmall}
use Rattle.vm_log.proofs.counting.count_all.Given as goal

-- those in front of the next are done
abbrev pub invariant-loop-place : goal.invariant-loop-place
invariant-loop-place l = record {
  ends : l.place-end ≡ length l.fn.counts;
  done : l.counts ≡ take l.place (counted_all l.epoch l.kept l.guests) ++ drop l.place l.fn.counts;
  small : AreSmall (l.epoch + 1) (take l.place (counted_all l.epoch l.kept l.guests));
}
