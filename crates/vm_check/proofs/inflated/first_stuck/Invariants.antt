use Rattle.std.proofs.Common.{◌≡◌, drop, length}
use Rattle.vm_pages.specs.Pages.{no_pages}
use Rattle.vm_check.specs.Inflated.{first_stuck}
use Rattle.vm_check.proofs.inflated.first_stuck.Given as goal

-- what is found is among the steps that are left
abbrev pub invariant-loop-step : goal.invariant-loop-step
invariant-loop-step l = record {
  found : first_stuck l.deflated l.inflated l.step (drop l.step l.trace) ≡ first_stuck l.deflated (no_pages l.size) 0 l.trace;
  size : length l.inflated ≡ l.size;
}
