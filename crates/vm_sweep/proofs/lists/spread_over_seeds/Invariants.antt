use Rattle.std.proofs.Common.{◌≡◌, ◌++◌, drop}
use Rattle.std.specs.List.{range_with_len}
use Rattle.vm_sweep.specs.Combinations.{spread_over}
use Rattle.vm_sweep.specs.declared.variant.Looped.TheVariants.{Seed}
use Rattle.vm_sweep.proofs.lists.spread_over_seeds.Given as goal

-- with the variants that are left it is the whole
abbrev pub invariant-loop-variant : goal.invariant-loop-variant
invariant-loop-variant l =
    l.list.items ++ spread_over Seed (range_with_len 0 l.count) (drop l.variant-index l.before)
    ≡ spread_over Seed (range_with_len 0 l.count) l.before
