use Rattle.std.proofs.Common.{◌≡◌, ◌++◌, drop, length, take}
use Rattle.vm_log.specs.Steps.{kept_all}
use Rattle.vm_log.proofs.closing.keep_all.Given as goal

-- those in front of the next are done
abbrev pub invariant-loop-place : goal.invariant-loop-place
invariant-loop-place l = record {
  ends : l.place-end ≡ length l.fn.kept;
  done : l.kept ≡ take l.place (kept_all l.guests l.counts l.fn.kept) ++ drop l.place l.fn.kept;
}
