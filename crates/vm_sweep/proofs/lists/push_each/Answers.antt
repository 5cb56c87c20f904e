use Rattle.vm_sweep.specs.declared.variant.Variant.{Variant}
use Rattle.vm_sweep.specs.Combinations.{with_looped}
use Rattle.vm_sweep.proofs.SpreadLemmas.{drop-got, one-more}
use Rattle.std.proofs.Common.{◌∙◌, ◌++◌, ◌∷◌, [], ap, sym}
use Rattle.vm_sweep.proofs.lists.push_each.Goals as goal

pub loop-index-preserved : goal.loop-index-preserved
loop-index-preserved c =
    one-more (λ n. with_looped c.args.what n c.args.variant.now) c.args.values.now c.loop-index.index c.in-Some.value _ _ _
    (drop-got c.args.values.now c.loop-index.index c.in-Some.value (sym c.get.ensures ∙ c.in-Some.is))
    (c.in_ok-push.ensures.items ∙ ap (λ (v : Variant). c.loop-index.list.items ++ v ∷ []) c.in_ok-with.ensures) c.loop-index.invariant
