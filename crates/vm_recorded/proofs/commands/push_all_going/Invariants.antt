use Rattle.std.proofs.Common.{◌≡◌, ◌++◌, drop}
use Rattle.vm_recorded.specs.Commands.{all_go}
use Rattle.vm_recorded.specs.Parts.{ended}
use Rattle.vm_recorded.proofs.commands.push_all_going.Given as goal

-- the guests that are left complete the text
abbrev pub invariant-loop-guest : goal.invariant-loop-guest
invariant-loop-guest l =
    l.text.items ++ ended (all_go l.at (drop l.guest-index l.guests)) ≡ l.fn.text.items ++ ended (all_go l.at l.guests)
