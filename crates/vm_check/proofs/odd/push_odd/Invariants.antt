use Rattle.std.proofs.Common.{◌≡◌, drop}
use Rattle.std.specs.Prelude.{map}
use Rattle.vm_keys.specs.OddKeys.{odd_of}
use Rattle.vm_check.specs.Odd.{odd_line}
use Rattle.vm_check.specs.Report.{with_lines}
use Rattle.vm_check.proofs.odd.push_odd.Given as goal

-- the keys that are left complete the report
abbrev pub invariant-loop-key : goal.invariant-loop-key
invariant-loop-key l =
    with_lines l.report (map (λ o. odd_line l.part (odd_of o)) (drop l.key-index l.odd))
    ≡ with_lines l.fn.report (map (λ o. odd_line l.part (odd_of o)) l.odd)
