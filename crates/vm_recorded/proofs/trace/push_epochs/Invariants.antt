use Rattle.std.proofs.Common.{◌≡◌, ◌++◌, drop}
use Rattle.vm_recorded.specs.Parts.{ended_steps}
use Rattle.vm_recorded.specs.Traces.{trace_from, trace_of}
use Rattle.vm_recorded.proofs.trace.push_epochs.Given as goal

-- the epochs that are left complete the text
abbrev pub invariant-loop-told : goal.invariant-loop-told
invariant-loop-told l =
    l.text.items ++ ended_steps (trace_from l.last (drop l.told-index l.uses)) ≡ l.fn.text.items ++ ended_steps (trace_of l.uses)
