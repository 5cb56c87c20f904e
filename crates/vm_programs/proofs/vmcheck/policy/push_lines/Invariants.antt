use Rattle.std.proofs.Common.{◌≡◌, drop}
use Rattle.std.specs.Prelude.{fold, map}
use Rattle.vm_policy_check.specs.Findings.{found_of}
use Rattle.vm_policy_check.specs.Texts.{text_of}
use Rattle.vm_programs.specs.vmcheck.Written.{with_line}
use Rattle.vm_programs.proofs.vmcheck.policy.push_lines.Given as goal

-- the findings that are left complete the lines
abbrev pub invariant-loop-finding : goal.invariant-loop-finding
invariant-loop-finding l =
    fold with_line l.lines.items (map text_of (map found_of (drop l.finding-index l.found)))
    ≡ fold with_line l.fn.lines.items (map text_of (map found_of l.fn.found))
