use Rattle.std.proofs.Common.{◌≡◌, drop, length}
use Rattle.vm_balloon.specs.Virtio.{page_numbers}
use Rattle.vm_pages.specs.Pages.{insert_all}
use Rattle.vm_check.proofs.inflated.mark_all.Given as goal

-- the pages that are left complete the whole
abbrev pub invariant-loop-i : goal.invariant-loop-i
invariant-loop-i l = record {
  pages : insert_all l.marks (drop l.i (page_numbers l.bytes)) ≡ insert_all l.fn.marks (page_numbers l.bytes);
  size : length l.marks ≡ l.size;
}
