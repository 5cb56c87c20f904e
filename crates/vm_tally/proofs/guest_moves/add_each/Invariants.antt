use Rattle.std.proofs.Common.{◌≡◌, drop}
use Rattle.vm_tally.specs.GuestEntries.{entries_of}
use Rattle.vm_tally.specs.GuestTally.{each_with_more}
use Rattle.vm_tally.proofs.guest_moves.add_each.Given as goal

-- the positions that are left complete the counts
abbrev pub invariant-loop-position : goal.invariant-loop-position
invariant-loop-position l =
    each_with_more (λ p. entries_of p (drop l.position-index l.positions)) l.column
    ≡ each_with_more (λ p. entries_of p l.positions) l.fn.column
