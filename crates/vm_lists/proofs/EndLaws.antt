-- The fault of an item stands in it or at its end.
use Rattle.std.proofs.Common.{◌≡◌, ℕ, ◌+◌, ◌-◌, ◌≤◌, ◌==◌, not, nat_lt, List, ◌∷◌, length, Some, None, Err, inl, inr, refl, ap, subst, arith}
use Rattle.std.proofs.lemmas.Bool.{eqb-true}
use Rattle.std.proofs.lemmas.List.{length-append}
use Rattle.std.specs.List.{before_first, after_first}
use Rattle.std.specs.Option.{option_map_or}
use Rattle.vm_lists.specs.declared.bounds.Unit.{Unit as Units}
use Rattle.vm_lists.specs.declared.bounds.Limits.{Limits}
use Rattle.vm_lists.specs.declared.faults.ListFault.{ListFault}
use Rattle.vm_lists.specs.declared.faults.ListFaultKind.{ListFaultKind}
use Rattle.vm_lists.specs.declared.faults.ListFaultKind.TheVariants.{NoItem}
use Rattle.vm_lists.specs.declared.items.Written.{Written}
use Rattle.vm_lists.specs.Items.{around_dots, is_slash, one_of, is_within, range_written, number_written, written_of, values_of, item_of, fault}
use Rattle.vm_lists.specs.Numbers.{has, number_of}
use Rattle.vm_lists.proofs.Choices.{chosen, some_bound}
use Rattle.vm_lists.proofs.GrammarLaws.{around, dots_from}

-- the end and the step begin there or before
record IsUpTo (last : ℕ) (item : Written) : Type 0 where
  end : item.to_at ≤ last
  step : item.step_at ≤ last

written_up_to : (last : ℕ) (w item : Written) → Some w ≡ Some item → w.to_at ≤ last → w.step_at ≤ last → IsUpTo last item
written_up_to last w item h end step = let same : w ≡ item = cc in subst (IsUpTo last) same (record { end = end; step = step })

number_up_to : (unit : Units) (at last : ℕ) (text : List ℕ) (item : Written) → at ≤ last → number_written unit at text ≡ Some item → IsUpTo last item
unfolding number_written
number_up_to unit at last text item inside h =
    let number = some_bound (number_of unit text) _ item h in
    written_up_to last (record { from = number.0; to = number.0; step = one_of unit; to_at = at; step_at = at }) item number.2 inside inside

range_up_to : (unit : Units) (at : ℕ) (front behind : List ℕ) (item : Written) → range_written unit at front behind ≡ Some item → IsUpTo (at + (length front + 2 + length behind)) item
unfolding range_written
range_up_to unit at front behind item h =
    let last = at + (length front + 2 + length behind) in
    let from = some_bound (number_of unit front) _ item h in
    let to_at = at + (length front + 2) in
    elim (chosen (has is_slash behind) _ _ _ from.2) [
      | inl named ↦
          let end = before_first is_slash behind in
          let to = some_bound (number_of unit end) _ item named.1 in
          let step = some_bound (number_of unit (after_first is_slash behind)) _ item to.2 in
          let step_at = to_at + (length end + 1) in
          let whole = ap length (around is_slash 47 behind (λ b. eqb-true b 47) named.0) in
          let parts = length-append end (47 ∷ after_first is_slash behind) in
          written_up_to last (record { from = from.0; to = to.0; step = step.0; to_at = to_at; step_at = step_at }) item step.2 (omega arith) (omega (arith, whole, parts))
      | inr plain ↦
          let to = some_bound (number_of unit behind) _ item plain.1 in
          written_up_to last (record { from = from.0; to = to.0; step = one_of unit; to_at = to_at; step_at = at }) item to.2 (omega arith) (omega arith)
    ]

item_up_to : (unit : Units) (at : ℕ) (text : List ℕ) (item : Written) → written_of unit at text ≡ Some item → IsUpTo (at + length text) item
unfolding written_of
item_up_to unit at text item h =
    elim (around_dots text) as (λ o. around_dots text ≡ o → option_map_or (λ parts. range_written unit at parts.0 parts.1) o (number_written unit at text) ≡ Some item → IsUpTo (at + length text) item) [
      | Some parts ↦ λ is read.
          let len : at + (length parts.0 + 2 + length parts.1) ≡ at + length text =
          omega (arith, ap length (dots_from text parts is), length-append parts.0 (46 ∷ 46 ∷ parts.1)) in
          subst (λ last. IsUpTo last item) len (range_up_to unit at parts.0 parts.1 item read)
      | None ↦ λ is read. number_up_to unit at (at + length text) text item (omega arith) read
    ] refl h

fault_up_to : (last place : ℕ) (kind : ListFaultKind) (found : ListFault) → fault place kind ≡ Err found → place ≤ last → found.at ≤ last
fault_up_to last place kind found h inside =
    let same : record { at = place; kind = kind } ≡ found = cc in
    subst (λ (f : ListFault). f.at ≤ last) same inside

values_up_to : (limits : Limits) (at last : ℕ) (item : Written) (found : ListFault) → at ≤ last → IsUpTo last item → values_of limits at item ≡ Err found → found.at ≤ last
unfolding values_of
values_up_to limits at last item found inside written h =
    elim (chosen (not (is_within limits item.from)) _ _ _ h) [
      | inl from ↦ fault_up_to last _ _ found from.1 inside
      | inr a ↦ elim (chosen (not (is_within limits item.to)) _ _ _ a.1) [
        | inl to ↦ fault_up_to last _ _ found to.1 written.end
        | inr b ↦ elim (chosen (nat_lt item.to item.from) _ _ _ b.1) [
          | inl below ↦ fault_up_to last _ _ found below.1 written.end
          | inr d ↦ elim (chosen (item.step == 0) _ _ _ d.1) [
            | inl step ↦ fault_up_to last _ _ found step.1 written.step
            | inr good ↦ absurd (let read = good.1 in cc)
          ]
        ]
      ]
    ]

item_fault_up_to : (limits : Limits) (at : ℕ) (text : List ℕ) (found : ListFault) → item_of limits at text ≡ Err found → found.at ≤ at + length text
unfolding item_of
item_fault_up_to limits at text found h =
    elim (written_of limits.unit at text) as (λ o. written_of limits.unit at text ≡ o → option_map_or (values_of limits at) o (fault at NoItem) ≡ Err found → found.at ≤ at + length text) [
      | Some item ↦ λ is read. values_up_to limits at (at + length text) item found (omega arith) (item_up_to limits.unit at text item is) read
      | None ↦ λ is read. fault_up_to (at + length text) _ _ found read (omega arith)
    ] refl h

-- in a text of which these bytes are left, the first of which are the item
pub fault_inside : (limits : Limits) (all left : ℕ) (text : List ℕ) (found : ListFault) → left ≤ all → length text ≤ left → item_of limits (all - left) text ≡ Err found → found.at ≤ all
fault_inside limits all left text found inside item h =
    let end = item_fault_up_to limits (all - left) text found h in omega arith
