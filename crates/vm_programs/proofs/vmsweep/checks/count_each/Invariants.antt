use Rattle.std.proofs.Common.{◌≡◌, ◌≤◌, ◌*◌, ◌-◌, ◌^◌, drop, min}
use Rattle.vm_programs.specs.vmsweep.Lists.{count_each}
use Rattle.vm_programs.proofs.vmsweep.checks.count_each.Given as goal

-- with the lists that are left it is the whole, as far as it is held
abbrev pub invariant-loop-list : goal.invariant-loop-list
invariant-loop-list l = record {
  held : l.count ≤ 2 ^ 64 - 1;
  left : min (l.count * count_each (drop l.list-index l.lists)) (2 ^ 64 - 1) ≡ min (count_each l.lists) (2 ^ 64 - 1);
}
