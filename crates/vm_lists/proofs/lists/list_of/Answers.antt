use Rattle.std.proofs.Common.{Some, subst, sym, ◌∙◌, refl}
use Rattle.std.proofs.lemmas.Result.{err_from_is_err_and}
use Rattle.vm_lists.proofs.EndLaws.{fault_inside}
use Rattle.vm_lists.proofs.ReadLaws.{Reads, IsFirst, reads_none, reads_more, reads_fault, reads_memory}
use Rattle.vm_lists.proofs.lists.list_of.Goals as goal

pub loop-left-init : goal.loop-left-init
loop-left-init c =
    subst (λ list. Reads c.args.limits.now c.args.text.now list (Some c.args.text)) (sym c.new-list.ensures)
    (reads_none c.args.limits.now c.args.text)

pub returns-in_err-values-clause-fault : goal.returns-in_err-values-clause-fault
returns-in_err-values-clause-fault c =
    let reads = subst (Reads c.args.limits.now c.args.text.now c.loop-left.list) c.in-Some.is c.loop-left.invariant in
    let first : IsFirst c.in-Some.items c.first_item.result.0.now c.first_item.result.1 = record { split = c.first_item.ensures.items; behind = c.first_item.ensures.behind } in
    let p = err_from_is_err_and c.from_residual.result c.from_residual.ensures.1 in
    rw (p.1, p.2) (reads_fault c.args.limits.now c.args.text.now c.loop-left.list c.in-Some.items c.first_item.result.0.now c.first_item.result.1 c.in_err-values.field-0.0 reads first (sym c.item_of.ensures ∙ c.in_err-values.was))

pub returns-in_err-values-clause-inside : goal.returns-in_err-values-clause-inside
returns-in_err-values-clause-inside c =
    let reads = subst (Reads c.args.limits.now c.args.text.now c.loop-left.list) c.in-Some.is c.loop-left.invariant in
    let p = err_from_is_err_and c.from_residual.result c.from_residual.ensures.1 in
    rw (p.1, p.2) (fault_inside c.args.limits.now _ _ c.first_item.result.0.now c.in_err-values.field-0.0 reads.inside c.first_item.ensures.inside (sym c.item_of.ensures ∙ c.in_err-values.was))

pub returns-in_default-push-clause-fault : goal.returns-in_default-push-clause-fault
returns-in_default-push-clause-fault c =
    let reads = subst (Reads c.args.limits.now c.args.text.now c.loop-left.list) c.in-Some.is c.loop-left.invariant in
    let first : IsFirst c.in-Some.items c.first_item.result.0.now c.first_item.result.1 = record { split = c.first_item.ensures.items; behind = c.first_item.ensures.behind } in
    reads_memory c.args.limits.now c.args.text.now c.loop-left.list c.in-Some.items c.first_item.result.0.now c.first_item.result.1 c.in_ok-values.values _ reads first (sym c.item_of.ensures ∙ c.in_ok-values.was) refl

pub loop-left-preserved : goal.loop-left-preserved
loop-left-preserved c =
    let reads = subst (Reads c.args.limits.now c.args.text.now c.loop-left.list) c.in-Some.is c.loop-left.invariant in
    let first : IsFirst c.in-Some.items c.first_item.result.0.now c.first_item.result.1 = record { split = c.first_item.ensures.items; behind = c.first_item.ensures.behind } in
    subst (λ list. Reads c.args.limits.now c.args.text.now list c.first_item.result.1) (sym c.in-Ok.ensures.ok)
    (reads_more c.args.limits.now c.args.text.now c.loop-left.list c.in-Some.items c.first_item.result.0.now c.first_item.result.1 c.in_ok-values.values reads first (sym c.item_of.ensures ∙ c.in_ok-values.was))
