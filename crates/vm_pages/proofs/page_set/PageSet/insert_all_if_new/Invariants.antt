use Rattle.std.proofs.Common.{◌≡◌, ◌+◌, ◌-◌, ◌≤◌, length, take}
use Rattle.vm_pages.specs.Pages.{count, insert_all}
use Rattle.vm_pages.proofs.page_set.PageSet.insert_all_if_new.Given as goal

-- the pages that are done are in the set, and each of them came newly
abbrev pub invariant-loop-done : goal.invariant-loop-done
invariant-loop-done l = record {
  within : l.done ≤ length l.pages;
  after : l.self ≡ insert_all l.initial.self (take l.done l.pages);
  gained : count l.self ≡ count l.initial.self + l.done;
  size : length l.self ≡ length l.initial.self;
}

abbrev pub decreases-loop-done : goal.decreases-loop-done
decreases-loop-done l = length l.pages - l.done
