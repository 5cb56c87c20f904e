use Rattle.std.proofs.Common.{◌≡◌, ◌≤◌, ◌/◌, take}
use Rattle.std.specs.Prelude.{All}
use Rattle.vm_pages.specs.Runs.{bits_lost, without_bits}
use Rattle.vm_pages.proofs.words.without_run.Given as goal

abbrev pub invariant-loop-run : goal.invariant-loop-run
invariant-loop-run l = record {
  same_word : All (λ page. page / 64 ≡ l.word) (take l.run l.pages);
  left : l.left ≡ without_bits l.marks (take l.run l.pages);
  lost : l.lost ≡ bits_lost l.marks (take l.run l.pages);
  few : l.lost ≤ l.run;
}
