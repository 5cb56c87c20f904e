use Rattle.std.proofs.Common.{◌≡◌, ◌++◌, map}
use Rattle.std.specs.List.{range_with_len}
use Rattle.vm_sweep.specs.declared.names.Part.TheVariants.{Shares}
use Rattle.vm_sweep.proofs.names.push_shares.Given as goal

-- those of the numbers so far
abbrev pub invariant-loop-number : goal.invariant-loop-number
invariant-loop-number l = l.parts.items ≡ l.fn.parts.items ++ map Shares (range_with_len 0 l.number)
