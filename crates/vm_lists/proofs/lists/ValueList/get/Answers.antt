use Rattle.std.proofs.Common.{◌≡◌, ◌++◌, drop, slice_get, ap, sym, ◌+◌, ◌-◌, ◌∙◌, arith}
use Rattle.std.specs.List.{concat}
use Rattle.vm_lists.proofs.ListLaws.{concat-drop, slice_get-front, slice_get-behind}
use Rattle.vm_lists.proofs.lists.ValueList.get.Goals as goal

pub returns-then-left-len : goal.returns-then-left-len
returns-then-left-len c =
    let item = c.item-item.result in
    let items = c.deref-item-items.result.now in
    let first : concat (drop c.loop-item.item-index items) ≡ item ++ concat (drop (c.loop-item.item-index + 1) items) =
    concat-drop items c.loop-item.item-index item c.loop-item-test.true ∙ ap (λ l. l ++ concat (drop (c.loop-item.item-index + 1) items)) (sym c.item-item.is) in
    let len = c.len.ensures.exact in
    sym (c.loop-item.invariant ∙ ap (λ l. slice_get l c.loop-item.left) first ∙ slice_get-front item _ c.loop-item.left (omega arith) ∙ c.value_at.ensures)

pub loop-item-preserved : goal.loop-item-preserved
loop-item-preserved c =
    let item = c.item-item.result in
    let items = c.deref-item-items.result.now in
    let first : concat (drop c.loop-item.item-index items) ≡ item ++ concat (drop (c.loop-item.item-index + 1) items) =
    concat-drop items c.loop-item.item-index item c.loop-item-test.true ∙ ap (λ l. l ++ concat (drop (c.loop-item.item-index + 1) items)) (sym c.item-item.is) in
    let len = c.len.ensures.exact in
    c.loop-item.invariant ∙ ap (λ l. slice_get l c.loop-item.left) first ∙ slice_get-behind item _ c.loop-item.left (omega arith)
    ∙ ap (λ n. slice_get (concat (drop (c.loop-item.item-index + 1) items)) (c.loop-item.left - n)) (sym c.len-left.ensures.exact)
