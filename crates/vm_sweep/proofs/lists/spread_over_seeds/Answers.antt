use Rattle.std.proofs.Common.{map, rules}
use Rattle.std.specs.List.{range_with_len}
use Rattle.vm_sweep.specs.Combinations.{with_looped}
use Rattle.vm_sweep.specs.declared.variant.Looped.TheVariants.{Seed}
use Rattle.vm_sweep.proofs.SpreadLemmas.{drop-item, some-more}
use Rattle.vm_sweep.proofs.lists.spread_over_seeds.Goals as goal

pub loop-variant-preserved : goal.loop-variant-preserved
loop-variant-preserved c =
    some-more (λ v. map (λ n. with_looped Seed n v) (range_with_len 0 c.args.count)) c.args.before.now c.loop-variant.variant-index
    c.variant-item.result _ _ _ (drop-item _ _ _ c.loop-variant-test.true c.variant-item.is) (search rules)
    c.loop-variant.invariant
