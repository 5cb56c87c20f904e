use Rattle.std.proofs.Common.{◌≡◌, drop, max}
use Rattle.vm_recorded.specs.Traces.{longest_from}
use Rattle.vm_recorded.proofs.guests.longest_of.Given as goal

-- the epochs that are left complete the greatest
abbrev pub invariant-loop-told : goal.invariant-loop-told
invariant-loop-told l = max l.longest (longest_from l.last (drop l.told-index l.uses)) ≡ longest_from 0 l.uses
