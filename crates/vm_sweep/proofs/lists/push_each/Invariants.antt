use Rattle.std.proofs.Common.{◌≡◌, ◌++◌, map, drop}
use Rattle.vm_sweep.specs.Combinations.{with_looped}
use Rattle.vm_sweep.proofs.lists.push_each.Given as goal

-- with the values that are left it is the whole
abbrev pub invariant-loop-index : goal.invariant-loop-index
invariant-loop-index l =
    l.list.items ++ map (λ n. with_looped l.what n l.variant) (drop l.index l.values)
    ≡ l.fn.list.items ++ map (λ n. with_looped l.what n l.variant) l.values
