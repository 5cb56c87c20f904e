use Rattle.std.proofs.Common.{◌≡◌, drop}
use Rattle.vm_tally.specs.Counting.{sum_each}
use Rattle.vm_tally.specs.GuestEntries.{given_up_by}
use Rattle.vm_tally.specs.GuestTally.{each_with_more}
use Rattle.vm_tally.proofs.guest_moves.add_frames.Given as goal

-- those that are left complete the counts
abbrev pub invariant-loop-paged : goal.invariant-loop-paged
invariant-loop-paged l =
    each_with_more (λ p. sum_each (given_up_by p) (drop l.paged-index l.paging)) l.column
    ≡ each_with_more (λ p. sum_each (given_up_by p) l.paging) l.fn.column
