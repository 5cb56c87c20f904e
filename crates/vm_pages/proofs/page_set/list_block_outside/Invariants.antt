use Rattle.std.proofs.Common.{◌≡◌, ◌*◌, ◌≤◌, vec_capacity}
use Rattle.vm_pages.specs.Extremes.{greatest_from}
use Rattle.vm_pages.proofs.Outside.{outside}
use Rattle.vm_pages.proofs.page_set.list_block_outside.Given as goal

abbrev pub invariant-loop-word : goal.invariant-loop-word
invariant-loop-word l = record {
  above : l.start ≤ l.word;
  listed : l.list.items ≡ greatest_from (outside l.words l.others l.except l.pages) (l.word * 64) l.most;
  room : vec_capacity l.list ≡ vec_capacity l.initial.list;
}
