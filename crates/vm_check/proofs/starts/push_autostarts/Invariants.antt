use Rattle.std.proofs.Common.{◌≡◌, ◌++◌, drop}
use Rattle.vm_check.specs.Starts.{autostarts_from}
use Rattle.vm_check.proofs.starts.push_autostarts.Given as goal

-- the guests that are left complete the whole
abbrev pub invariant-loop-guest : goal.invariant-loop-guest
invariant-loop-guest l =
    l.starts.items ++ autostarts_from l.guest (drop l.guest l.flags) ≡ l.fn.starts.items ++ autostarts_from 0 l.flags
