use Rattle.std.proofs.Common.{◌≡◌, ◌+◌, ◌*◌, ◌≤◌, drop}
use Rattle.vm_series.specs.Samples.{total}
use Rattle.vm_series.proofs.samples.total.Given as goal

-- the views that are left complete the sum, to which each gave fewer than 2^32 pages
abbrev pub invariant-loop-view : goal.invariant-loop-view
invariant-loop-view l = record {
  whole : l.sum + total l.pages (drop l.view-index l.views) ≡ total l.pages l.views;
  small : l.sum ≤ l.view-index * 4294967295;
}
