use Rattle.std.proofs.Common.{◌≡◌, ◌+◌, ◌-◌}
use Rattle.vm_import.specs.Drafts.{with_steps}
use Rattle.vm_import.specs.Steps.{idle_steps}
use Rattle.vm_import.proofs.draft.Draft.push_idle.Given as goal

-- what is left completes the idle steps
abbrev pub invariant-loop-added : goal.invariant-loop-added
invariant-loop-added l = record {
  left : with_steps l.self (idle_steps (l.count - l.added)) ≡ with_steps l.fn.self (idle_steps l.count);
  steps : l.self.steps + (l.count - l.added) ≡ l.fn.self.steps + l.count;
}
