use Rattle.std.proofs.Common.{◌≡◌, length}
use Rattle.std.specs.List.{All}
use Rattle.vm_trace.specs.Limits.{IsStep, IsWithin}
use Rattle.guest_tests.proofs.tests.pool.writes.Given as goal

abbrev pub invariant-loop-number : goal.invariant-loop-number
invariant-loop-number g l = All (IsWithin 8) l.trace × All IsStep l.trace × (length l.trace ≡ l.number)
