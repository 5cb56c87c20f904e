use Rattle.std.proofs.Common.{◌≡◌, ◌≤◌, ◌+◌, ◌++◌, reverse, vec_len, vec_capacity}
use Rattle.vm_board.specs.Values.{values}
use Rattle.vm_board.proofs.making.unpack.Given as goal

abbrev pub invariant-loop-slot : goal.invariant-loop-slot
invariant-loop-slot g l = (l.jobs.items ++ values (reverse l.slots.items) ≡ values (reverse l.initial.slots.items)) × (vec_len l.jobs + vec_len l.slots ≤ vec_capacity l.jobs) × (vec_capacity l.initial.jobs ≤ vec_capacity l.jobs)

abbrev pub decreases-loop-slot : goal.decreases-loop-slot
decreases-loop-slot g l = vec_len l.slots
