use Rattle.std.proofs.Common.{◌≡◌, drop}
use Rattle.vm_tally.specs.Counting.{sum_each}
use Rattle.vm_tally.specs.GuestEntries.{revoked_for}
use Rattle.vm_tally.specs.GuestTally.{each_with_more}
use Rattle.vm_tally.proofs.guest_moves.add_revoked_for.Given as goal

-- the answers that are left complete the counts
abbrev pub invariant-loop-answer : goal.invariant-loop-answer
invariant-loop-answer l =
    each_with_more (λ p. sum_each (revoked_for p) (drop l.answer-index l.answers)) l.column
    ≡ each_with_more (λ p. sum_each (revoked_for p) l.answers) l.fn.column
