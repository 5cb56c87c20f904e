use Rattle.std.proofs.Common.{◌≡◌, length}
use Rattle.pages_tests.proofs.tests.pages.add_pages.Given as goal

abbrev pub invariant-loop-page : goal.invariant-loop-page
invariant-loop-page g l = record {
  size : length l.set ≡ l.size;
}
