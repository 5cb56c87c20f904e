use Rattle.std.proofs.Common.{◌∙◌, ◌++◌, ◌∷◌, [], ap}
use Rattle.vm_sweep.specs.Drawn.{swept_of}
use Rattle.vm_sweep.proofs.SpreadLemmas.{drop-item, one-more}
use Rattle.vm_sweep.proofs.drawing.keep_runs.Goals as goal

pub loop-one-preserved : goal.loop-one-preserved
loop-one-preserved c =
    one-more swept_of c.args.done.now c.loop-one.one-index c.one-item.result _ _ _ (drop-item _ _ _ c.loop-one-test.true c.one-item.is)
    (c.in_ok-push.ensures.items ∙ ap (λ run. c.loop-one.runs.items ++ run ∷ []) c.in-Some.ensures) c.loop-one.invariant
