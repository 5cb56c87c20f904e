use Rattle.std.proofs.Common.{◌≡◌, ◌+◌, ◌*◌, ◌^◌, ◌≤◌, drop}
use Rattle.vm_policy_check.specs.Findings.{kept}
use Rattle.vm_policy_check.proofs.policy.kept.Given as goal

abbrev pub invariant-loop-guest : goal.invariant-loop-guest
invariant-loop-guest l = record {
  few : l.sum ≤ l.guest-index * (2 ^ 54 + 1024);
  whole : l.sum + kept l.overhead (drop l.guest-index l.guests) ≡ kept l.overhead l.guests;
}
