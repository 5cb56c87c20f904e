use Rattle.std.proofs.Common.{◌≡◌, ◌≤◌, ◌/◌, take}
use Rattle.std.specs.Prelude.{All}
use Rattle.vm_pages.specs.Runs.{bits_gained, with_bits}
use Rattle.vm_pages.proofs.words.with_run.Given as goal

abbrev pub invariant-loop-run : goal.invariant-loop-run
invariant-loop-run l = record {
  same_word : All (λ page. page / 64 ≡ l.word) (take l.run l.pages);
  all : l.all ≡ with_bits l.marks (take l.run l.pages);
  gained : l.gained ≡ bits_gained l.marks (take l.run l.pages);
  few : l.gained ≤ l.run;
}
