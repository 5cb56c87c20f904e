use Rattle.std.proofs.Common.{◌≡◌, ◌++◌, map}
use Rattle.std.specs.List.{range_with_len}
use Rattle.vm_sweep.specs.Combinations.{with_looped}
use Rattle.vm_sweep.specs.declared.variant.Looped.TheVariants.{Seed}
use Rattle.vm_sweep.proofs.lists.push_seeds.Given as goal

-- those of the seeds so far
abbrev pub invariant-loop-number : goal.invariant-loop-number
invariant-loop-number l =
    l.list.items ≡ l.fn.list.items ++ map (λ n. with_looped Seed n l.variant) (range_with_len 0 l.number)
