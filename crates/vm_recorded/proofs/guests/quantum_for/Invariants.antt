use Rattle.std.proofs.Common.{◌≡◌, ◌≤◌, drop, max}
use Rattle.vm_recorded.specs.Hosts.{quantum_for}
use Rattle.vm_recorded.proofs.guests.quantum_for.Given as goal

-- the guests that are left complete the greatest
abbrev pub invariant-loop-guest : goal.invariant-loop-guest
invariant-loop-guest l = record {
  left : max l.quantum (quantum_for (drop l.guest-index l.guests)) ≡ quantum_for l.guests;
  some : 1 ≤ l.quantum;
}
