use Rattle.std.proofs.Common.{◌≡◌, max, drop}
use Rattle.vm_drawing.specs.Values.{greatest}
use Rattle.vm_drawing.proofs.values.greatest.Given as goal

-- the values that are left may have a greater one
abbrev pub invariant-loop-value : goal.invariant-loop-value
invariant-loop-value l = max l.most (greatest (drop l.value-index l.values)) ≡ greatest l.values
