use Rattle.std.proofs.Common.{ℕ, ◌+◌, ◌<◌, slice_index}
use Rattle.vm_programs.proofs.vmsweep.checks.is_rising.Given as goal

-- the values so far rise
abbrev pub invariant-loop-index : goal.invariant-loop-index
invariant-loop-index l = (k : ℕ) → k + 1 < l.index → slice_index l.list k < slice_index l.list (k + 1)
