-- The faults of an item: each stands at it or behind its beginning, and none is that memory was refused.
use Rattle.std.proofs.Common.{◌≡◌, ◌≢◌, ℕ, ◌+◌, ◌≤◌, ◌==◌, not, nat_lt, List, length, Some, None, Err, inl, inr, refl, subst, arith}
use Rattle.std.specs.Option.{option_map_or}
use Rattle.vm_lists.specs.declared.bounds.Unit.{Unit as Units}
use Rattle.vm_lists.specs.declared.bounds.Limits.{Limits}
use Rattle.vm_lists.specs.declared.faults.ListFault.{ListFault}
use Rattle.vm_lists.specs.declared.faults.ListFaultKind.{ListFaultKind}
use Rattle.vm_lists.specs.declared.faults.ListFaultKind.TheVariants.{NoItem, Memory}
use Rattle.vm_lists.specs.declared.items.Written.{Written}
use Rattle.vm_lists.specs.Items.{around_dots, is_slash, one_of, is_within, range_written, number_written, written_of, values_of, item_of, fault}
use Rattle.vm_lists.specs.Numbers.{has, number_of}
use Rattle.std.specs.List.{before_first, after_first}
use Rattle.vm_lists.proofs.Choices.{chosen, some_bound}

-- the end and the step begin in the item, or are its own
record IsBehind (at : ℕ) (item : Written) : Type 0 where
  end : at ≤ item.to_at
  step : at ≤ item.step_at

pub record IsItemFault (at : ℕ) (found : ListFault) : Type 0 where
  pub late : at ≤ found.at
  pub other : found.kind ≢ Memory

written_behind : (at : ℕ) (w item : Written) → Some w ≡ Some item → at ≤ w.to_at → at ≤ w.step_at → IsBehind at item
written_behind at w item h end step = let same : w ≡ item = cc in subst (IsBehind at) same (record { end = end; step = step })

number_behind : (unit : Units) (at : ℕ) (text : List ℕ) (item : Written) → number_written unit at text ≡ Some item → IsBehind at item
unfolding number_written
number_behind unit at text item h =
    let number = some_bound (number_of unit text) _ item h in
    written_behind at (record { from = number.0; to = number.0; step = one_of unit; to_at = at; step_at = at }) item number.2 (omega arith) (omega arith)

range_behind : (unit : Units) (at : ℕ) (front behind : List ℕ) (item : Written) → range_written unit at front behind ≡ Some item → IsBehind at item
unfolding range_written
range_behind unit at front behind item h =
    let from = some_bound (number_of unit front) _ item h in
    let to_at = at + (length front + 2) in
    elim (chosen (has is_slash behind) _ _ _ from.2) [
      | inl named ↦
          let to = some_bound (number_of unit (before_first is_slash behind)) _ item named.1 in
          let step = some_bound (number_of unit (after_first is_slash behind)) _ item to.2 in
          let step_at = to_at + (length (before_first is_slash behind) + 1) in
          written_behind at (record { from = from.0; to = to.0; step = step.0; to_at = to_at; step_at = step_at }) item step.2 (omega arith) (omega arith)
      | inr plain ↦
          let to = some_bound (number_of unit behind) _ item plain.1 in
          written_behind at (record { from = from.0; to = to.0; step = one_of unit; to_at = to_at; step_at = at }) item to.2 (omega arith) (omega arith)
    ]

item_behind : (unit : Units) (at : ℕ) (text : List ℕ) (item : Written) → written_of unit at text ≡ Some item → IsBehind at item
unfolding written_of
item_behind unit at text item h =
    elim (around_dots text) as (λ o. option_map_or (λ parts. range_written unit at parts.0 parts.1) o (number_written unit at text) ≡ Some item → IsBehind at item) [
      | Some parts ↦ λ is. range_behind unit at parts.0 parts.1 item is
      | None ↦ λ is. number_behind unit at text item is
    ] h

fault_is : (at place : ℕ) (kind : ListFaultKind) (found : ListFault) → fault place kind ≡ Err found → at ≤ place → kind ≢ Memory → IsItemFault at found
fault_is at place kind found h late other =
    let same : record { at = place; kind = kind } ≡ found = cc in
    subst (IsItemFault at) same (record { late = late; other = other })

values_fault : (limits : Limits) (at : ℕ) (item : Written) (found : ListFault) → IsBehind at item → values_of limits at item ≡ Err found → IsItemFault at found
unfolding values_of
values_fault limits at item found behind h =
    elim (chosen (not (is_within limits item.from)) _ _ _ h) [
      | inl from ↦ fault_is at _ _ found from.1 (omega arith) (λ e. cc)
      | inr a ↦ elim (chosen (not (is_within limits item.to)) _ _ _ a.1) [
        | inl to ↦ fault_is at _ _ found to.1 behind.end (λ e. cc)
        | inr b ↦ elim (chosen (nat_lt item.to item.from) _ _ _ b.1) [
          | inl below ↦ fault_is at _ _ found below.1 behind.end (λ e. cc)
          | inr d ↦ elim (chosen (item.step == 0) _ _ _ d.1) [
            | inl step ↦ fault_is at _ _ found step.1 behind.step (λ e. cc)
            | inr good ↦ absurd cc
          ]
        ]
      ]
    ]

pub item_fault : (limits : Limits) (at : ℕ) (text : List ℕ) (found : ListFault) → item_of limits at text ≡ Err found → IsItemFault at found
unfolding item_of
item_fault limits at text found h =
    elim (written_of limits.unit at text) as (λ o. written_of limits.unit at text ≡ o → option_map_or (values_of limits at) o (fault at NoItem) ≡ Err found → IsItemFault at found) [
      | Some item ↦ λ is read. values_fault limits at item found (item_behind limits.unit at text item is) read
      | None ↦ λ is read. fault_is at _ _ found read (omega arith) (λ e. cc)
    ] refl h
