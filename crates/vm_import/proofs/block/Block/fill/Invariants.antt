use Rattle.std.proofs.Common.{◌≡◌, ◌+◌, ◌-◌, ◌<◌, ◌^◌, length}
use Rattle.vm_import.specs.Waiting.{IsTaken}
use Rattle.vm_import.proofs.block.Block.fill.Given as goal

-- bytes were taken, and none was used
abbrev pub invariant-loop-self : goal.invariant-loop-self
invariant-loop-self g l = record {
  taken : IsTaken l.fn.self (g.R.Source.remaining l.fn.source) l.self (g.R.Source.remaining l.source);
  counted : l.self.taken + length l.fn.self.bytes ≡ l.fn.self.taken + length l.self.bytes;
  small : l.fn.self.taken < 2 ^ 64 → l.self.taken < 2 ^ 64;
  stays : g.R.Source.has_failed l.source ≡ g.R.Source.has_failed l.fn.source;
}

abbrev pub decreases-loop-self : goal.decreases-loop-self
decreases-loop-self g l = 32 - length l.self.bytes
