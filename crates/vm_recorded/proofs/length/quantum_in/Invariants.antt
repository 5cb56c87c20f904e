use Rattle.std.proofs.Common.{◌≡◌, ◌≤◌, drop, max}
use Rattle.vm_recorded.specs.Lengths.{quantum_in}
use Rattle.vm_recorded.proofs.length.quantum_in.Given as goal

-- the guests that are left complete the greatest
abbrev pub invariant-loop-guest : goal.invariant-loop-guest
invariant-loop-guest l = record {
  left : max l.quantum (quantum_in (drop l.guest-index l.counts)) ≡ quantum_in l.counts;
  some : 1 ≤ l.quantum;
}
