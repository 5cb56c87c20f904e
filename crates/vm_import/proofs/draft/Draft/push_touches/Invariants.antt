use Rattle.std.proofs.Common.{◌≡◌, drop}
use Rattle.vm_import.specs.Drafts.{with_steps}
use Rattle.vm_import.specs.Steps.{steps_of}
use Rattle.vm_import.proofs.draft.Draft.push_touches.Given as goal

-- what is left completes the steps
abbrev pub invariant-loop-touch : goal.invariant-loop-touch
invariant-loop-touch l =
    with_steps l.self (steps_of l.number (drop l.touch-index l.touches)) ≡ with_steps l.fn.self (steps_of l.number l.touches)
