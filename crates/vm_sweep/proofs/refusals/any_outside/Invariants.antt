use Rattle.std.proofs.Common.{◌≡◌, ◌||◌, drop}
use Rattle.std.specs.List.{list_any}
use Rattle.vm_sweep.specs.Refusals.{is_outside}
use Rattle.vm_sweep.proofs.refusals.any_outside.Given as goal

-- with the values that are left it is the whole
abbrev pub invariant-loop-index : goal.invariant-loop-index
invariant-loop-index l =
    (list_any (is_outside l.range) (drop l.index l.values) || l.any) ≡ list_any (is_outside l.range) l.values
