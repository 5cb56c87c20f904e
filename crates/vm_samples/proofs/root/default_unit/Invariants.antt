use Rattle.std.proofs.Common.{◌≡◌, ◌-◌, ◌≤◌}
use Rattle.vm_samples.specs.PolicyOf.{default_unit, doubled}
use Rattle.vm_samples.proofs.UnitLemmas.{greatest}
use Rattle.vm_samples.proofs.root.default_unit.Given as goal

-- doubled so often as is left it becomes the unit
abbrev pub invariant-loop-times : goal.invariant-loop-times
invariant-loop-times l = record {
  some : 1024 ≤ l.unit;
  most : greatest (10 - l.times) l.unit ≡ 1048576;
  completes : doubled (10 - l.times) l.unit l.memory ≡ default_unit l.memory;
}
