use Rattle.std.proofs.Common.{◌≡◌, ◌+◌, ◌*◌, ◌≤◌, ◌^◌, drop}
use Rattle.vm_recorded.specs.Lengths.{commands_bytes}
use Rattle.vm_recorded.proofs.command_length.commands_len.Given as goal

-- the guests that are left complete the sum, and it is small
abbrev pub invariant-loop-guest : goal.invariant-loop-guest
invariant-loop-guest l = record {
  left : l.total + commands_bytes l.unit l.epochs (drop l.guest-index l.guests) ≡ commands_bytes l.unit l.epochs l.guests;
  few : l.total ≤ 2 ^ 36 * l.guest-index;
}
