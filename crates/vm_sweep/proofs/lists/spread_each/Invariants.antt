use Rattle.std.proofs.Common.{◌≡◌, drop}
use Rattle.vm_sweep.specs.Combinations.{spread_each}
use Rattle.vm_sweep.proofs.lists.spread_each.Given as goal

-- the loops that are left complete the whole
abbrev pub invariant-loop-list : goal.invariant-loop-list
invariant-loop-list l =
    spread_each l.setting l.config (drop l.list-index l.lists) l.variants.items ≡ spread_each l.setting l.config l.lists l.fn.before.items
