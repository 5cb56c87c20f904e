use Rattle.std.proofs.Common.{◌≡◌, ◌++◌, drop, length, map, take}
use Rattle.vm_log.specs.Steps.{alone_back}
use Rattle.vm_log.proofs.alone.take_back_beside.Given as goal

-- those in front of the next are done
abbrev pub invariant-loop-place : goal.invariant-loop-place
invariant-loop-place l = record {
  ends : l.place-end ≡ length l.initial.beside;
  done : l.beside ≡ take l.place (map alone_back l.initial.beside) ++ drop l.place l.initial.beside;
}
