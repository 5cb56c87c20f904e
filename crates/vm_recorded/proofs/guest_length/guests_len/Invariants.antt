use Rattle.std.proofs.Common.{◌≡◌, ◌+◌, ◌*◌, ◌≤◌, ◌^◌, drop}
use Rattle.vm_recorded.specs.Lengths.{guests_bytes}
use Rattle.vm_recorded.proofs.guest_length.guests_len.Given as goal

-- the guests that are left complete the sum, and it is small
abbrev pub invariant-loop-number : goal.invariant-loop-number
invariant-loop-number l = record {
  left : l.total + guests_bytes l.quantum l.number (drop l.number l.guests) ≡ guests_bytes l.quantum 0 l.guests;
  few : l.total ≤ 2 ^ 52 * l.number;
}
