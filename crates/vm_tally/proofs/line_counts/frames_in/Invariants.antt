use Rattle.std.proofs.Common.{◌≡◌, ◌+◌, ◌<◌, ◌^◌, drop}
use Rattle.vm_guest.specs.Record.{saturated}
use Rattle.vm_tally.specs.Counting.{sum_each}
use Rattle.vm_tally.proofs.line_counts.frames_in.Given as goal

-- what is left completes the sum
abbrev pub invariant-loop-paged : goal.invariant-loop-paged
invariant-loop-paged l = record {
  sum : saturated (l.sum + sum_each (λ p. p.count) (drop l.paged-index l.paging)) ≡ saturated (sum_each (λ p. p.count) l.paging);
  fits : l.sum < 2 ^ 64;
}
