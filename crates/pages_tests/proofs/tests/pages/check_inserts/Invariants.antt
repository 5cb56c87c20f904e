use Rattle.std.proofs.Common.{◌≡◌, length}
use Rattle.pages_tests.proofs.tests.pages.check_inserts.Given as goal

abbrev pub invariant-loop-page : goal.invariant-loop-page
invariant-loop-page g l = length l.set ≡ l.size
