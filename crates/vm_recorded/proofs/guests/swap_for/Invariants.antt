use Rattle.std.proofs.Common.{◌≡◌, ◌+◌, ◌*◌, ◌≤◌, ◌^◌, drop}
use Rattle.vm_recorded.specs.Hosts.{swap_for}
use Rattle.vm_recorded.proofs.guests.swap_for.Given as goal

-- the guests that are left complete the sum, and it is small
abbrev pub invariant-loop-guest : goal.invariant-loop-guest
invariant-loop-guest l = record {
  left : l.total + swap_for (drop l.guest-index l.guests) ≡ swap_for l.guests;
  few : l.total ≤ 2 ^ 32 * l.guest-index;
}
