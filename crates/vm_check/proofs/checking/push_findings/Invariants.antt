use Rattle.std.proofs.Common.{◌≡◌, drop}
use Rattle.std.specs.Prelude.{map}
use Rattle.vm_check.specs.Report.{with_lines}
use Rattle.vm_check.specs.Texts.{text_of}
use Rattle.vm_check.proofs.checking.push_findings.Given as goal

-- the findings that are left complete the report
abbrev pub invariant-loop-finding : goal.invariant-loop-finding
invariant-loop-finding l =
    with_lines l.report (map text_of (drop l.finding-index l.findings)) ≡ with_lines l.fn.report (map text_of l.findings)
