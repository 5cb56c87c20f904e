use Rattle.std.proofs.Common.{◌≡◌, ◌*◌, ◌≤◌, ◌^◌}
use Rattle.vm_guest.specs.Record.{ballooned, saturated, steps_left}
use Rattle.vm_host.specs.World.{guest_at}
use Rattle.vm_pool.specs.Guests.{of_running}
use Rattle.vm_tally.specs.Counting.{sum_over}
use Rattle.vm_tally.specs.Counts.{evicted_from, executed_by, has_stalled, swapped_of}
use Rattle.vm_tally.proofs.guest_counts.counts_of.Given as goal

-- the sums of the guests at the positions so far, to which each gives as much as a guest's can be
abbrev pub invariant-loop-position : goal.invariant-loop-position
invariant-loop-position l = record {
  swapped : l.sum.swapped ≡ sum_over (λ p. of_running swapped_of (guest_at l.host p)) l.position;
  balloon : l.sum.balloon ≡ sum_over (λ p. of_running ballooned (guest_at l.host p)) l.position;
  executed : l.sum.executed ≡ sum_over (λ p. of_running executed_by (guest_at l.host p)) l.position;
  left : l.sum.left ≡ saturated (sum_over (λ p. of_running steps_left (guest_at l.host p)) l.position);
  evicted : l.sum.evicted ≡ saturated (sum_over (λ p. of_running evicted_from (guest_at l.host p)) l.position);
  stalled : l.sum.stalled ≡ sum_over (λ p. of_running has_stalled (guest_at l.host p)) l.position;
  few_swapped : l.sum.swapped ≤ l.position * 2 ^ 32;
  few_ballooned : l.sum.balloon ≤ l.position * 2 ^ 32;
  few_executed : l.sum.executed ≤ l.position * 2 ^ 32;
  few_stalled : l.sum.stalled ≤ l.position;
}
