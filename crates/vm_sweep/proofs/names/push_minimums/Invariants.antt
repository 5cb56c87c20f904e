use Rattle.std.proofs.Common.{◌≡◌, ◌++◌, map}
use Rattle.std.specs.List.{range_with_len}
use Rattle.vm_sweep.specs.declared.names.Part.TheVariants.{Minimum}
use Rattle.vm_sweep.proofs.names.push_minimums.Given as goal

-- those of the numbers so far
abbrev pub invariant-loop-number : goal.invariant-loop-number
invariant-loop-number l = l.parts.items ≡ l.fn.parts.items ++ map Minimum (range_with_len 0 l.number)
