-- What is read lies within the limits, and is at least one value.
use Rattle.std.proofs.Common.{◌≡◌, ℕ, ◌+◌, ◌≤◌, ◌==◌, Bool, true, false, not, nat_le, nat_lt, List, [], ◌∷◌, ◌++◌, length, Some, None, Ok, Err, inl, inr, refl, subst, arith}
use Rattle.std.proofs.lemmas.Bool.{and_parts, leb-true, ltb-false}
use Rattle.std.proofs.lemmas.List.{length-append}
use Rattle.std.proofs.lemmas.List.Elements.{All-append, All-nil}
use Rattle.std.proofs.lemmas.List.Splits.{length-slice_split}
use Rattle.std.specs.List.{All, slice_split}
use Rattle.std.specs.Option.{option_map_or}
use Rattle.vm_lists.specs.declared.bounds.Limits.{Limits}
use Rattle.vm_lists.specs.declared.faults.ListFaultKind.TheVariants.{NoItem}
use Rattle.vm_lists.specs.declared.items.Written.{Written}
use Rattle.vm_lists.specs.Items.{fault, is_within, values_of, written_of, item_of}
use Rattle.vm_lists.specs.Lists.{◌>>=◌, is_comma, items_of, list_of, IsWithin}
use Rattle.vm_lists.specs.Ranges.{count_of, range_of}
use Rattle.vm_lists.proofs.Choices.{chosen}
use Rattle.vm_lists.proofs.RangeLaws.{length-spaced, range_within}

pub record AreWithin (limits : Limits) (values : List ℕ) : Type 0 where
  pub within : All (IsWithin limits) values
  pub some : 1 ≤ length values

passed : (b : Bool) → not b ≡ false → b ≡ true
passed true h = refl
passed false h = absurd cc

pub allowed : (limits : Limits) (n : ℕ) → not (is_within limits n) ≡ false → IsWithin limits n
allowed limits n h =
    let parts = and_parts (nat_le limits.least n) (nat_le n limits.greatest) (passed _ h) in
    record { least = leb-true limits.least n parts.0; greatest = leb-true n limits.greatest parts.1 }

range_allowed : (limits : Limits) (from to step : ℕ) (values : List ℕ) → IsWithin limits from → IsWithin limits to → from ≤ to → range_of from to step ≡ values → AreWithin limits values
range_allowed limits from to step values least greatest ordered same =
    subst (AreWithin limits) same (record {
      within = λ k d l.
          let above = least.least in
          let below = greatest.greatest in
          let inside = range_within from to step ordered k d l in
          record { least = omega arith; greatest = omega arith };
      some = let count = length-spaced from step (count_of from to step) in omega arith;
    })

values_allowed : (limits : Limits) (at : ℕ) (item : Written) (values : List ℕ) → values_of limits at item ≡ Ok values → AreWithin limits values
unfolding values_of
values_allowed limits at item values h =
    elim (chosen (not (is_within limits item.from)) _ _ _ h) [
      | inl from ↦ absurd (let no = from.1 in cc)
      | inr a ↦ elim (chosen (not (is_within limits item.to)) _ _ _ a.1) [
        | inl to ↦ absurd (let no = to.1 in cc)
        | inr b ↦ elim (chosen (nat_lt item.to item.from) _ _ _ b.1) [
          | inl below ↦ absurd (let no = below.1 in cc)
          | inr d ↦ elim (chosen (item.step == 0) _ _ _ d.1) [
            | inl step ↦ absurd (let no = step.1 in cc)
            | inr good ↦
                let read = good.1 in
                let same : range_of item.from item.to item.step ≡ values = cc in
                range_allowed limits item.from item.to item.step values (allowed limits item.from a.0) (allowed limits item.to b.0) (ltb-false item.to item.from d.0) same
          ]
        ]
      ]
    ]

item_allowed : (limits : Limits) (at : ℕ) (text values : List ℕ) → item_of limits at text ≡ Ok values → AreWithin limits values
unfolding item_of
item_allowed limits at text values h =
    elim (written_of limits.unit at text) as (λ o. option_map_or (values_of limits at) o (fault at NoItem) ≡ Ok values → AreWithin limits values) [
      | Some item ↦ λ read. values_allowed limits at item values read
      | None ↦ λ read. absurd cc
    ] h

-- the same of items, of which there is at least one
record AreAllowed (limits : Limits) (items : List (List ℕ)) (values : List ℕ) : Type 0 where
  within : All (IsWithin limits) values
  some : 1 ≤ length items → 1 ≤ length values

joined : (limits : Limits) (item : List ℕ) (items : List (List ℕ)) (first more values : List ℕ) → AreWithin limits first → AreAllowed limits items more → first ++ more ≡ values → AreAllowed limits (item ∷ items) values
joined limits item items first more values one others same =
    subst (AreAllowed limits (item ∷ items)) same (record {
      within = All-append (IsWithin limits) first more one.within others.within;
      some = λ _. let some = one.some in omega (arith, length-append first more);
    })

items_allowed : (limits : Limits) (at : ℕ) (items : List (List ℕ)) (values : List ℕ) → items_of limits at items ≡ Ok values → AreAllowed limits items values
items_allowed limits at [] values h =
    let same : [] ≡ values = cc in
    subst (AreAllowed limits []) same (record { within = All-nil (IsWithin limits); some = λ some. absurd (omega arith) })
items_allowed limits at (item ∷ items) values h =
    let next = at + (length item + 1) in
    elim (item_of limits at item) as (λ r. item_of limits at item ≡ r → (r >>= (λ values. items_of limits next items >>= (λ more. Ok (values ++ more)))) ≡ Ok values → AreAllowed limits (item ∷ items) values) [
      | Ok first ↦ λ is read. (elim (items_of limits next items) as (λ r. items_of limits next items ≡ r → (r >>= (λ more. Ok (first ++ more))) ≡ Ok values → AreAllowed limits (item ∷ items) values) [
        | Ok more ↦ λ rest all. joined limits item items first more values (item_allowed limits at item first is) (items_allowed limits next items more rest) (cc)
        | Err found ↦ λ rest all. absurd cc
      ] refl read)
      | Err found ↦ λ is read. absurd cc
    ] refl h

pub list_within : (limits : Limits) (text values : List ℕ) → list_of limits text ≡ Ok values → AreWithin limits values
unfolding list_of
list_within limits text values h =
    let all = items_allowed limits 0 (slice_split is_comma text) values h in
    record { within = all.within; some = all.some (omega (arith, length-slice_split is_comma text)) }
