use Rattle.std.proofs.Common.{◌≡◌, ◌-◌, ◌≤◌, drop, length}
use Rattle.vm_pages.specs.Pages.{insert_all}
use Rattle.vm_pages.proofs.page_marks.PageMarks.insert_all.Given as goal

-- what is left of the list completes what is done
abbrev pub invariant-loop-done : goal.invariant-loop-done
invariant-loop-done l = record {
  within : l.done ≤ length l.pages;
  after : insert_all l.self (drop l.done l.pages) ≡ insert_all l.initial.self l.pages;
  size : length l.self ≡ length l.initial.self;
}

abbrev pub decreases-loop-done : goal.decreases-loop-done
decreases-loop-done l = length l.pages - l.done
