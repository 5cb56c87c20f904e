use Rattle.std.proofs.Common.{◌∙◌, sym}
use Rattle.vm_sweep.specs.Refusals.{is_outside}
use Rattle.vm_sweep.proofs.SpreadLemmas.{any-more, drop-got}
use Rattle.vm_sweep.proofs.refusals.any_outside.Goals as goal

pub loop-index-preserved : goal.loop-index-preserved
loop-index-preserved c =
    any-more (is_outside c.args.range) c.args.values.now c.loop-index.index c.in-Some.value c.loop-index.any _
    (drop-got c.args.values.now c.loop-index.index c.in-Some.value (sym c.get.ensures ∙ c.in-Some.is)) c.is_outside-any.ensures c.loop-index.invariant
