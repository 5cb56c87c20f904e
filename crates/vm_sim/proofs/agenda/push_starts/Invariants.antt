use Rattle.std.proofs.Common.{◌≡◌, ◌++◌, drop}
use Rattle.vm_sim.specs.Course.{autostart_lines}
use Rattle.vm_sim.proofs.agenda.push_starts.Given as goal

-- the lines of the domains that are left complete the lines
abbrev pub invariant-loop-position : goal.invariant-loop-position
invariant-loop-position l =
    l.lines ++ autostart_lines (drop l.position l.host.names) (drop l.position l.flags) ≡ l.fn.lines ++ autostart_lines l.host.names l.flags
