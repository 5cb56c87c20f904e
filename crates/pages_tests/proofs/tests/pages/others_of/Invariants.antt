use Rattle.std.proofs.Common.{◌≡◌, ℕ, Bool, true, false, length}
use Rattle.vm_pages.specs.Pages.{contains}
use Rattle.pages_tests.proofs.tests.pages.others_of.Given as goal

abbrev pub invariant-loop-page : goal.invariant-loop-page
invariant-loop-page g l = record {
  size : length l.others ≡ l.size;
  apart : (page : ℕ) → contains l.others page ≡ true → contains l.set page ≡ false;
}
