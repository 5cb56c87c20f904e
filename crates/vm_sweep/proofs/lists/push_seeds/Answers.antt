use Rattle.std.proofs.Common.{◌∙◌, ◌++◌, ◌∷◌, [], ap}
use Rattle.vm_sweep.specs.declared.variant.Variant.{Variant}
use Rattle.vm_sweep.specs.Combinations.{with_looped}
use Rattle.vm_sweep.specs.declared.variant.Looped.TheVariants.{Seed}
use Rattle.vm_sweep.proofs.SpreadLemmas.{next-in_range}
use Rattle.vm_sweep.proofs.lists.push_seeds.Goals as goal

pub loop-number-preserved : goal.loop-number-preserved
loop-number-preserved c =
    next-in_range (λ n. with_looped Seed n c.args.variant.now) c.loop-number.number _ _ _ c.loop-number.invariant
    (c.in_ok-push.ensures.items ∙ ap (λ (v : Variant). c.loop-number.list.items ++ v ∷ []) c.in_ok-with.ensures)
