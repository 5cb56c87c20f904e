use Rattle.std.proofs.Common.{◌≡◌, ◌++◌, drop}
use Rattle.vm_check.specs.Checked.{start_findings}
use Rattle.vm_check.proofs.checked.push_starts.Given as goal

-- the refusals that are left complete the whole
abbrev pub invariant-loop-refusal : goal.invariant-loop-refusal
invariant-loop-refusal l =
    l.found.items ++ start_findings l.guest (drop l.refusal-index l.refusals) ≡ l.fn.found.items ++ start_findings l.guest l.refusals
