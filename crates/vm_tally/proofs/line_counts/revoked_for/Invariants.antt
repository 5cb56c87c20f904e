use Rattle.std.proofs.Common.{◌≡◌, ◌+◌, ◌<◌, ◌^◌, drop, length}
use Rattle.vm_guest.specs.Record.{saturated}
use Rattle.vm_tally.specs.Counting.{sum_each}
use Rattle.vm_tally.proofs.line_counts.revoked_for.Given as goal

-- what is left completes the sum
abbrev pub invariant-loop-answer : goal.invariant-loop-answer
invariant-loop-answer l = record {
  sum : saturated (l.sum + sum_each (λ a. length a.revocations) (drop l.answer-index l.answers)) ≡ saturated (sum_each (λ a. length a.revocations) l.answers);
  fits : l.sum < 2 ^ 64;
}
