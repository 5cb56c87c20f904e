use Rattle.std.proofs.Common.{◌≡◌, ◌-◌, length}
use Rattle.std.specs.Prelude.{option_map}
use Rattle.json.specs.Value.{value_view}
use Rattle.vm_config.specs.declared.place.Part.TheVariants.{Guest}
use Rattle.vm_check.specs.Check.{numbered_lines, part_lines}
use Rattle.vm_check.specs.Report.{with_lines}
use Rattle.vm_check.proofs.checking.push_guests.Given as goal

-- the guests that are left complete the report
abbrev pub invariant-loop-number : goal.invariant-loop-number
invariant-loop-number l =
    with_lines l.report (numbered_lines (λ number. part_lines (option_map (λ v. value_view v.now) l.tree) l.checked (Guest number)) l.number (length l.checked.configs - l.number))
    ≡ with_lines l.fn.report (numbered_lines (λ number. part_lines (option_map (λ v. value_view v.now) l.tree) l.checked (Guest number)) 0 (length l.checked.configs))
