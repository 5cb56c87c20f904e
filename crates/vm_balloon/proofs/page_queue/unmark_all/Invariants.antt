use Rattle.std.proofs.Common.{◌≡◌, length, take}
use Rattle.vm_pages.specs.Pages.{remove_all}
use Rattle.vm_balloon.proofs.page_queue.unmark_all.Given as goal

abbrev pub invariant-loop-number : goal.invariant-loop-number
invariant-loop-number l = record {
  pages : l.named ≡ remove_all l.initial.named (take l.number-index l.numbers);
  size : length l.named ≡ l.size;
}
