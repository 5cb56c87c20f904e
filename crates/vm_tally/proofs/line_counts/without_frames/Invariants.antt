use Rattle.std.proofs.Common.{◌≡◌, ◌+◌, ◌<◌, ◌^◌, drop}
use Rattle.vm_guest.specs.Record.{saturated}
use Rattle.vm_tally.specs.Counting.{one_if, sum_each}
use Rattle.vm_tally.specs.Counts.{is_for_frames, is_refused}
use Rattle.vm_tally.proofs.line_counts.without_frames.Given as goal

-- what is left completes the sum
abbrev pub invariant-loop-answer : goal.invariant-loop-answer
invariant-loop-answer l = record {
  sum : saturated (l.sum + sum_each (λ a. one_if (is_refused is_for_frames a.outcome)) (drop l.answer-index l.answers)) ≡ saturated (sum_each (λ a. one_if (is_refused is_for_frames a.outcome)) l.answers);
  fits : l.sum < 2 ^ 64;
}
