use Rattle.std.proofs.Common.{◌≡◌, ◌-◌, ◌++◌}
use Rattle.vm_recorded.specs.Commands.{commands_from}
use Rattle.vm_recorded.specs.Parts.{ended}
use Rattle.vm_recorded.proofs.commands.push_epochs.Given as goal

-- the epochs that are left complete the text
abbrev pub invariant-loop-at : goal.invariant-loop-at
invariant-loop-at l =
    l.text.items ++ ended (commands_from l.unit l.at (l.epochs - l.at) l.guests)
    ≡ l.fn.text.items ++ ended (commands_from l.unit 0 l.epochs l.guests)
