use Rattle.std.proofs.Common.{◌≡◌, length}
use Rattle.pages_tests.proofs.tests.pages.insert_each.Given as goal

abbrev pub invariant-loop-page : goal.invariant-loop-page
invariant-loop-page l = length l.set ≡ l.size
