use Rattle.std.proofs.Common.{◌≡◌, ◌*◌, vec_capacity}
use Rattle.vm_pages.specs.Words.{marked}
use Rattle.vm_pages.specs.Extremes.{greatest_from}
use Rattle.vm_pages.proofs.page_set.list_greatest_of.Given as goal

abbrev pub invariant-loop-block : goal.invariant-loop-block
invariant-loop-block l = record {
  listed : l.list.items ≡ greatest_from (marked l.words l.pages) (l.block * 2048) l.most;
  room : vec_capacity l.list ≡ vec_capacity l.initial.list;
}
