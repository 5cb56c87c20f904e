use Rattle.std.proofs.Common.{◌≡◌, ◌≤◌, ◌+◌, ◌++◌, map, reverse, Some, vec_len, vec_capacity}
use Rattle.vm_board.proofs.making.pack.Given as goal

abbrev pub invariant-loop-job : goal.invariant-loop-job
invariant-loop-job g l = (l.slots.items ++ map Some (reverse l.jobs.items) ≡ map Some (reverse l.initial.jobs.items)) × (vec_len l.slots + vec_len l.jobs ≤ vec_capacity l.slots) × (vec_capacity l.jobs ≡ vec_capacity l.initial.jobs)

abbrev pub decreases-loop-job : goal.decreases-loop-job
decreases-loop-job g l = vec_len l.jobs
