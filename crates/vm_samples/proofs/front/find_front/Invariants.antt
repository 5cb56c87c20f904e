use Rattle.std.proofs.Common.{◌≡◌, ◌⊎◌, ℕ, ◌-◌, ◌≤◌, List, [], ◌++◌, vec_len}
use Rattle.std.specs.Io.KnownBytes.{prepend_known}
use Rattle.vm_samples.specs.Blocks.{blocks_of}
use Rattle.vm_samples.specs.LogSteps.{HasNoEnd, blocks_at, Stays}
use Rattle.vm_samples.proofs.front.find_front.Given as goal

-- The lines that were looked at are of the first block, and the next one has no end in what is known. As long as bytes at hand may
-- have a block nothing was read.
abbrev pub invariant-loop-seen : goal.invariant-loop-seen
invariant-loop-seen g l = record {
  ordered : l.seen ≤ l.known;
  within : l.known ≤ vec_len l.bytes;
  none : HasNoEnd l.bytes.items l.seen l.known;
  blocks : (more : List ℕ) → blocks_of (l.bytes.items ++ more) ≡ blocks_at l.bytes.items l.seen more;
  stays : Stays (prepend_known l.fn.bytes.items (g.R.Source.remaining l.fn.source)) (prepend_known l.bytes.items (g.R.Source.remaining l.source));
  failed : g.R.Source.has_failed l.source ≡ g.R.Source.has_failed l.fn.source;
  at_hand : (blocks_of l.fn.bytes.items ≡ []) ⊎ ((l.source ≡ l.fn.source) × (l.bytes.items ≡ l.fn.bytes.items));
}

abbrev pub decreases-loop-seen : goal.decreases-loop-seen
decreases-loop-seen g l = 16777220 - vec_len l.bytes
