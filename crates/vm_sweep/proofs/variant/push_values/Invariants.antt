use Rattle.std.proofs.Common.{◌≡◌, ◌++◌, drop, map}
use Rattle.vm_sweep.proofs.variant.push_values.Given as goal

-- the values that are left complete the numbers
abbrev pub invariant-loop-one : goal.invariant-loop-one
invariant-loop-one l =
    l.numbers.items ++ map (λ m. m.value) (drop l.one-index l.values) ≡ l.fn.numbers.items ++ map (λ m. m.value) l.values
