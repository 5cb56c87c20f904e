-- What a loop over the items of a list has read so far.
use Rattle.std.proofs.Common.{◌≡◌, ℕ, ◌+◌, ◌-◌, ◌<◌, ◌≤◌, List, [], ◌∷◌, ◌++◌, length, Option, Some, None, IfSome, Result, Ok, Err, IfErr, refl, ap, sym, subst, ◌∙◌, arith}
use Rattle.std.proofs.lemmas.List.{append_assoc, append-nil, length-append}
use Rattle.std.proofs.lemmas.List.Splits.{slice_split_none, slice_split_first}
use Rattle.std.proofs.lemmas.List.Sums.{fails_before_first}
use Rattle.std.proofs.lemmas.Str.Pattern.{IsSplitOnceResult, split_once_first, split_parts}
use Rattle.std.specs.Borrow.{Bor}
use Rattle.std.specs.List.{slice_split, position_or_len}
use Rattle.vm_lists.specs.declared.bounds.Limits.{Limits}
use Rattle.vm_lists.specs.declared.faults.ListFault.{ListFault}
use Rattle.vm_lists.specs.declared.faults.ListFaultKind.TheVariants.{Memory}
use Rattle.vm_lists.specs.Items.{item_of}
use Rattle.vm_lists.specs.Lists.{◌>>=◌, is_comma, items_left, items_of, list_of, IsFaultOf}
use Rattle.vm_lists.proofs.ItemLaws.{item_fault}

-- the first item, where a comma follows and where none does
pub item_before : (text : List ℕ) (x : Bor (List ℕ) × Bor (List ℕ)) → IsSplitOnceResult 44 text (Some x) → slice_split is_comma text ≡ x.0.now ∷ slice_split is_comma x.1.now
item_before text x h =
    let first = split_once_first 44 text (Some x) h (omega arith) in
    slice_split_first is_comma text 0 first.0 ∙ (λ i. sym first.1 i ∷ slice_split is_comma (sym first.2 i))

pub item_alone : (text : List ℕ) → IsSplitOnceResult 44 text None → slice_split is_comma text ≡ text ∷ []
item_alone text h =
    let none : position_or_len is_comma text ≡ length text = split_once_first 44 text None h (omega arith) in
    slice_split_none is_comma text (λ k d l. fails_before_first is_comma text k d (omega arith))

pub lengths_before : (text : List ℕ) (x : Bor (List ℕ) × Bor (List ℕ)) → IsSplitOnceResult 44 text (Some x) → length x.0.now + 1 + length x.1.now ≡ length text
lengths_before text x h =
    let whole = (split_parts 44 text (Some x) h (omega arith)).0 in
    omega (arith, ap length whole, length-append x.0.now (44 ∷ x.1.now))

-- values behind others, or the fault
abbrev pub behind : List ℕ → Result (List ℕ) ListFault → Result (List ℕ) ListFault
behind values (Ok more) = Ok (values ++ more)
behind values (Err fault) = Err fault

behind_none : (r : Result (List ℕ) ListFault) → behind [] r ≡ r
behind_none (Ok values) = refl
behind_none (Err fault) = refl

behind_behind : (xs ys : List ℕ) (r : Result (List ℕ) ListFault) → behind xs (r >>= (λ more. Ok (ys ++ more))) ≡ behind (xs ++ ys) r
behind_behind xs ys (Ok more) = ap Ok (sym (append_assoc xs ys more))
behind_behind xs ys (Err fault) = refl

-- how many bytes are left
abbrev pub length_left : Option (Bor (List ℕ)) → ℕ
length_left None = 0
length_left (Some text) = length text.now

-- how often there may be a next item
abbrev pub turns_left : Option (Bor (List ℕ)) → ℕ
turns_left None = 0
turns_left (Some text) = length text.now + 1

-- the items in front of what is left are read
pub record Reads (limits : Limits) (text values : List ℕ) (left : Option (Bor (List ℕ))) : Type 0 where
  pub whole : list_of limits text ≡ behind values (items_of limits (length text - length_left left) (items_left left))
  pub inside : length_left left ≤ length text

pub reads_none : (limits : Limits) (text : Bor (List ℕ)) → Reads limits text.now [] (Some text)
unfolding list_of
reads_none limits text = record {
  whole = ap (λ at. items_of limits at (slice_split is_comma text.now)) (omega arith) ∙ sym (behind_none _);
  inside = omega arith;
}

-- what is left where the first item is read
rest_of : (limits : Limits) (values : List ℕ) (at : ℕ) (item : List ℕ) (items : List (List ℕ)) (new : List ℕ) → item_of limits at item ≡ Ok new → behind values (items_of limits at (item ∷ items)) ≡ behind (values ++ new) (items_of limits (at + (length item + 1)) items)
rest_of limits values at item items new read = rw read (behind_behind values new (items_of limits (at + (length item + 1)) items))

-- the byte of the next item; where there is none, it doesn't matter
next_at : (limits : Limits) (all at : ℕ) (items : Bor (List ℕ)) (item : List ℕ) (rest : Option (Bor (List ℕ))) → at ≡ all - length items.now → length items.now ≤ all → IfSome rest (λ rest. length item + 1 + length rest.now ≡ length items.now) → items_of limits (at + (length item + 1)) (items_left rest) ≡ items_of limits (all - length_left rest) (items_left rest)
next_at limits all at items item None is inside behind = refl
next_at limits all at items item (Some rest) is inside behind = ap (λ at. items_of limits at (slice_split is_comma rest.now)) (omega arith)

left_inside : (all : ℕ) (items : Bor (List ℕ)) (item : List ℕ) (rest : Option (Bor (List ℕ))) → length items.now ≤ all → IfSome rest (λ rest. length item + 1 + length rest.now ≡ length items.now) → length_left rest ≤ all
left_inside all items item None inside behind = omega arith
left_inside all items item (Some rest) inside behind = omega arith

-- what `first_item` says
pub record IsFirst (items : Bor (List ℕ)) (item : List ℕ) (rest : Option (Bor (List ℕ))) : Type 0 where
  pub split : slice_split is_comma items.now ≡ item ∷ items_left rest
  pub behind : IfSome rest (λ rest. length item + 1 + length rest.now ≡ length items.now)

-- one more item
pub reads_more : (limits : Limits) (text values : List ℕ) (items : Bor (List ℕ)) (item : List ℕ) (rest : Option (Bor (List ℕ))) (new : List ℕ) → Reads limits text values (Some items) → IsFirst items item rest → item_of limits (length text - length items.now) item ≡ Ok new → Reads limits text (values ++ new) rest
reads_more limits text values items item rest new g first read =
    let at = length text - length items.now in
    record {
      whole =
          g.whole ∙ ap (λ l. behind values (items_of limits at l)) first.split ∙ rest_of limits values at item (items_left rest) new read
          ∙ ap (behind (values ++ new)) (next_at limits (length text) at items item rest refl g.inside first.behind);
      inside = left_inside (length text) items item rest g.inside first.behind;
    }

-- an item with a fault
pub reads_fault : (limits : Limits) (text values : List ℕ) (items : Bor (List ℕ)) (item : List ℕ) (rest : Option (Bor (List ℕ))) (found : ListFault) → Reads limits text values (Some items) → IsFirst items item rest → item_of limits (length text - length items.now) item ≡ Err found → IsFaultOf (list_of limits text) found
reads_fault limits text values items item rest found g first read =
    let at = length text - length items.now in
    let is : behind values (items_of limits at (item ∷ items_left rest)) ≡ Err found = rw read refl in
    let meaning = g.whole ∙ ap (λ l. behind values (items_of limits at l)) first.split ∙ is in
    record {
      first = λ other. meaning;
      memory = λ refused. absurd ((item_fault limits at item found read).other refused);
    }

-- a fault of items stands at them
after_values : (values : List ℕ) (r : Result (List ℕ) ListFault) (place at : ℕ) → at ≤ place → IfErr r (λ found. place ≤ found.at) → IfErr (r >>= (λ more. Ok (values ++ more))) (λ found. at ≤ found.at)
after_values values (Ok more) place at below late = tt
after_values values (Err found) place at below late = omega arith

items_late : (limits : Limits) (at : ℕ) (items : List (List ℕ)) → IfErr (items_of limits at items) (λ found. at ≤ found.at)
items_late limits at [] = tt
items_late limits at (item ∷ items) =
    elim (item_of limits at item) as (λ r. item_of limits at item ≡ r → IfErr (r >>= (λ values. items_of limits (at + (length item + 1)) items >>= (λ more. Ok (values ++ more)))) (λ found. at ≤ found.at)) [
      | Ok values ↦ λ is. after_values values (items_of limits (at + (length item + 1)) items) (at + (length item + 1)) at (omega arith) (items_late limits (at + (length item + 1)) items)
      | Err found ↦ λ is. (item_fault limits at item found is).late
    ] refl

behind_late : (values : List ℕ) (r : Result (List ℕ) ListFault) (place at : ℕ) → at < place → IfErr r (λ found. place ≤ found.at) → IfErr (behind values r) (λ found. at < found.at)
behind_late values (Ok more) place at below late = tt
behind_late values (Err found) place at below late = omega arith

-- no memory for an item
pub reads_memory : (limits : Limits) (text values : List ℕ) (items : Bor (List ℕ)) (item : List ℕ) (rest : Option (Bor (List ℕ))) (new : List ℕ) (found : ListFault) → Reads limits text values (Some items) → IsFirst items item rest → item_of limits (length text - length items.now) item ≡ Ok new → found ≡ record { at = length text - length items.now; kind = Memory } → IsFaultOf (list_of limits text) found
reads_memory limits text values items item rest new found g first read is =
    let at = length text - length items.now in
    let left = items_of limits (at + (length item + 1)) (items_left rest) in
    let meaning : list_of limits text ≡ behind (values ++ new) left =
    g.whole ∙ ap (λ l. behind values (items_of limits at l)) first.split ∙ rest_of limits values at item (items_left rest) new read in
    let late : IfErr (behind (values ++ new) left) (λ later. at < later.at) =
    behind_late (values ++ new) left (at + (length item + 1)) at (omega arith) (items_late limits (at + (length item + 1)) (items_left rest)) in
    subst (IsFaultOf (list_of limits text)) (sym is) (record {
      first = λ other. absurd (other refl);
      memory = λ refused. subst (λ r. IfErr r (λ later. at < later.at)) (sym meaning) late;
    })

-- all items are read
pub reads_all : (limits : Limits) (text values : List ℕ) → Reads limits text values None → list_of limits text ≡ Ok values
reads_all limits text values g = g.whole ∙ ap Ok (append-nil values)
