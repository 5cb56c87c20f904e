use Rattle.std.proofs.Common.{◌≡◌, ℕ, ◌-◌, ◌≤◌, List, length}
use Rattle.vm_samples.specs.LogSteps.{HasNoEnd, blocks_at}
use Rattle.vm_samples.proofs.front.scanned.Given as goal

-- the lines so far are of the first block, and of the next one a front is known
abbrev pub invariant-loop-len : goal.invariant-loop-len
invariant-loop-len l = record {
  low : l.from ≤ l.place;
  ordered : l.place ≤ l.behind;
  high : l.behind ≤ length l.bytes;
  none : HasNoEnd l.bytes l.place l.behind;
  blocks : (more : List ℕ) → blocks_at l.bytes l.from more ≡ blocks_at l.bytes l.place more;
}

abbrev pub decreases-loop-len : goal.decreases-loop-len
decreases-loop-len l = length l.bytes - l.behind
