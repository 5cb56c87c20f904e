use Rattle.std.proofs.Common.{◌≡◌, ◌∙◌, ◌++◌, ℕ, ap, string_bytes}
use Rattle.std.specs.Fmt.{decimal}
use Rattle.vm_lists.specs.Shown.{shown}
use Rattle.vm_tally.specs.Combinations.{Values}
use Rattle.vm_tally.specs.Table.{combination_text, field, swept_field}
use Rattle.vm_tally.proofs.TextLemmas.{four-fields}
use Rattle.vm_tally.proofs.table.combination_text.Goals as goal

pub returns : goal.returns
unfolding combination_text
returns c =
    let rebalancing = c.args.rebalancing in
    let now = c.args.combination.now in
    let tax = c.new-tax.result in
    let view = c.combination.view_is in
    let value : tax.value ≡ now.tax = c.new-tax.ensures.value ∙ ap (λ (v : Values). v.tax) view in
    four-fields _ _ _ _ _ _ _ c.in_ok-text.ensures.ok
    (c.in_ok-push_swept.ensures ∙ ap (λ (n : ℕ). string_bytes c.in_ok-text.text ++ swept_field rebalancing n) c.from.ensures)
    ∙ ap (λ (v : Values). decimal v.frames
    ++ (field (decimal v.swap) ++ (field (shown tax.unit tax.value) ++ (field (decimal v.page_rate) ++ swept_field rebalancing v.rebalance)))) view
    ∙ (λ i. decimal now.frames
    ++ (field (decimal now.swap) ++ (field (shown (c.new-tax.ensures.unit i) (value i)) ++ (field (decimal now.page_rate)
    ++ swept_field rebalancing now.rebalance))))
