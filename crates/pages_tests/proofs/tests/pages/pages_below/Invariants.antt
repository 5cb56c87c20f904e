use Rattle.std.proofs.Common.{◌<◌, All}
use Rattle.pages_tests.proofs.tests.pages.pages_below.Given as goal

abbrev pub invariant-loop-page : goal.invariant-loop-page
invariant-loop-page g l = All (λ page. page < l.size) l.below.items
