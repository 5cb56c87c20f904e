use Rattle.std.proofs.Common.{◌≡◌, drop}
use Rattle.vm_log.specs.Steps.{frames_less, names_of}
use Rattle.vm_log.proofs.frames.frames_for.Given as goal

-- those that are left complete it
abbrev pub invariant-loop-alone : goal.invariant-loop-alone
invariant-loop-alone l = frames_less (names_of l.guests) l.frames (drop l.alone-index l.beside) ≡ frames_less (names_of l.guests) l.policy.memory l.beside
