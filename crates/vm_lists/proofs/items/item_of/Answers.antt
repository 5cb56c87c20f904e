use Rattle.std.proofs.Common.{◌≡◌, ◌∙◌, ℕ, Option, Some, None, Result, Err, ap, sym}
use Rattle.std.proofs.lemmas.Result.{err_from_is_err_and}
use Rattle.std.specs.Option.{ok_or, option_map_or}
use Rattle.std.specs.Result.{result_ok}
use Rattle.vm_lists.specs.declared.bounds.Limits.{Limits}
use Rattle.vm_lists.specs.declared.faults.ListFault.{ListFault}
use Rattle.vm_lists.specs.declared.faults.ListFaultKind.TheVariants.{NoItem}
use Rattle.vm_lists.specs.declared.items.Written.{Written}
use Rattle.vm_lists.specs.Items.{fault, item_of, values_of}
use Rattle.vm_lists.proofs.items.item_of.Goals as goal

-- what has no form of an item has that fault
no_item : (limits : Limits) (at : ℕ) (o : Option Written) (r : Result Written ListFault) (e : ListFault) → r ≡ Err e
    → r ≡ ok_or o (record { at = at; kind = NoItem }) → Err e ≡ option_map_or (values_of limits at) o (fault at NoItem)
no_item limits at (Some written) r e failed is = absurd cc
no_item limits at None r e failed is = let same : e ≡ record { at = at; kind = NoItem } = cc in ap (λ x. Err x) same

pub returns : goal.returns
unfolding item_of
returns c =
    let at = c.args.at in
    c.values_of.ensures ∙ ap (λ o. option_map_or (values_of c.args.limits.now at) o (fault at NoItem))
    (sym (c.ok_or.ensures.ok_part ∙ ap result_ok c.in_ok-written.was) ∙ c.written_of.ensures)

pub returns-in_err-written : goal.returns-in_err-written
unfolding item_of
returns-in_err-written c =
    let at = c.args.at in
    let p = err_from_is_err_and c.from_residual.result c.from_residual.ensures.1 in
    rw (p.1, p.2) (no_item c.args.limits.now at c.written_of.result c.ok_or.result c.in_err-written.field-0.0 c.in_err-written.was c.ok_or.ensures.value
    ∙ ap (λ o. option_map_or (values_of c.args.limits.now at) o (fault at NoItem)) c.written_of.ensures)
