use Rattle.std.proofs.Common.{◌≡◌, drop}
use Rattle.vm_tally.specs.Counting.{sum_each}
use Rattle.vm_tally.specs.GuestTally.{each_with_more, entries_in}
use Rattle.vm_tally.proofs.guest_moves.add_stretches.Given as goal

-- the stretches that are left complete the counts
abbrev pub invariant-loop-stretch : goal.invariant-loop-stretch
invariant-loop-stretch l =
    each_with_more (λ p. sum_each (entries_in p) (drop l.stretch-index l.stretches)) l.column
    ≡ each_with_more (λ p. sum_each (entries_in p) l.stretches) l.fn.column
