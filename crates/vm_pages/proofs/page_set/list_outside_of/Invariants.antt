use Rattle.std.proofs.Common.{◌≡◌, ◌*◌, vec_capacity}
use Rattle.vm_pages.specs.Extremes.{greatest_from}
use Rattle.vm_pages.proofs.Outside.{outside}
use Rattle.vm_pages.proofs.page_set.list_outside_of.Given as goal

abbrev pub invariant-loop-block : goal.invariant-loop-block
invariant-loop-block l = record {
  listed : l.list.items ≡ greatest_from (outside l.words l.others l.except l.pages) (l.block * 2048) l.most;
  room : vec_capacity l.list ≡ vec_capacity l.initial.list;
}
