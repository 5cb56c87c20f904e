use Rattle.std.proofs.Common.{◌≡◌, ◌++◌, drop}
use Rattle.vm_sweep.specs.Combinations.{spread_over}
use Rattle.vm_sweep.proofs.lists.spread_over.Given as goal

-- with the variants that are left it is the whole
abbrev pub invariant-loop-variant : goal.invariant-loop-variant
invariant-loop-variant l =
    l.list.items ++ spread_over l.what l.values (drop l.variant-index l.before) ≡ spread_over l.what l.values l.before
