use Rattle.std.proofs.Common.{◌≡◌, ◌*◌, vec_capacity}
use Rattle.vm_pages.specs.Words.{marked}
use Rattle.vm_pages.specs.Extremes.{least_below}
use Rattle.vm_pages.proofs.page_set.list_block_up.Given as goal

abbrev pub invariant-loop-word : goal.invariant-loop-word
invariant-loop-word l = record {
  listed : l.list.items ≡ least_below (marked l.words l.pages) (l.word * 64) l.most;
  room : vec_capacity l.list ≡ vec_capacity l.initial.list;
}
