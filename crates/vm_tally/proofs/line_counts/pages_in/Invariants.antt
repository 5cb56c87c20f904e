use Rattle.std.proofs.Common.{◌≡◌, ◌+◌, ◌<◌, ◌^◌, drop, length}
use Rattle.vm_guest.specs.Record.{saturated}
use Rattle.vm_plan.specs.Stretches.{moves_of}
use Rattle.vm_tally.proofs.line_counts.pages_in.Given as goal

-- the stretches that are left complete the sum
abbrev pub invariant-loop-stretch : goal.invariant-loop-stretch
invariant-loop-stretch l = record {
  sum : saturated (l.sum + length (moves_of (drop l.stretch-index l.stretches))) ≡ saturated (length (moves_of l.stretches));
  fits : l.sum < 2 ^ 64;
}
