use Rattle.std.proofs.Common.{◌∙◌, List, ap, arith}
use Rattle.vm_plan.specs.Growth.{count_at_end}
use Rattle.vm_plan.specs.declared.stretch.Stretch.{Stretch}
use Rattle.vm_plan.proofs.StretchLemmas.{begins_next, grows_last}
use Rattle.vm_plan.proofs.plan.push_moves.Goals as goal

pub returns-then-count_at_end-gt0-clause-moved : goal.returns-then-count_at_end-gt0-clause-moved
returns-then-count_at_end-gt0-clause-moved c =
    let position = c.args.position in
    let ends = c.count_at_end.ensures ∙ ap (λ (stretches : List Stretch). count_at_end stretches position) c.deref.ensures.value in
    grows_last c.args.count c.args.stretches.now.items position _ c.index_mut.result.now (omega (arith, ends, c.if-count_at_end-gt0.true)) (omega arith) c.index_mut.ensures.value

pub returns-clause-moved : goal.returns-clause-moved
returns-clause-moved c =
    let position = c.args.position in
    let ends = c.count_at_end.ensures ∙ ap (λ (stretches : List Stretch). count_at_end stretches position) c.deref.ensures.value in
    c.in_ok-push.ensures.items ∙ begins_next c.args.count c.args.stretches.now.items position c.requires.counted (omega (arith, ends, c.if-count_at_end-gt0.false))
