-- The name of a curve: what differs among the combinations.
use Rattle.std.specs.Prelude.{ℕ, ◌==◌, Bool, false, not, List, [], ◌∷◌, ◌++◌, codes, filter, length, map, Option, None, Some, slice_get, unwrap_or}
use Rattle.std.specs.Fmt.{decimal}
use Rattle.std.specs.List.{join_by, list_any, range_with_len}
use Rattle.vm_lists.specs.declared.bounds.Unit.TheVariants.{Hundredths}
use Rattle.vm_lists.specs.Shown.{shown}
use Rattle.vm_sweep.specs.Combinations.{NamedList, ValueLists}
use Rattle.vm_sweep.specs.declared.names.Part.{Part}
use Rattle.vm_sweep.specs.declared.names.Part.TheVariants.{Swap, Tax, PageRate, Rebalance, Percent, Minimum, Shares}
use Rattle.vm_sweep.specs.declared.variant.Variant.{Variant}
use Rattle.vm_variants.specs.declared.guest_value.GuestValue.{GuestValue}

-- ---- the parts of a combination

-- in the order of the loops; the minimums and shares by the number of their list
abbrev pub parts_of : ValueLists → List Part
parts_of lists =
    (Swap ∷ Tax ∷ PageRate ∷ Rebalance ∷ Percent ∷ []) ++ (map Minimum (range_with_len 0 (length lists.minimums))
    ++ map Shares (range_with_len 0 (length lists.shares)))

abbrev pub value_among : Option GuestValue → ℕ
value_among None = 0
value_among (Some guest) = guest.value

-- the value with this number
abbrev pub value_in : List GuestValue → (number : ℕ) → ℕ
value_in values number = value_among (slice_get values number)

abbrev pub value_of : Part → Variant → ℕ
value_of Swap v = v.combination.swap
value_of Tax v = v.combination.tax
value_of PageRate v = v.combination.page_rate
value_of Rebalance v = v.combination.rebalance
value_of Percent v = unwrap_or v.changes.percent 0
value_of (Minimum number) v = value_in v.changes.minimums number
value_of (Shares number) v = value_in v.changes.shares number

abbrev pub name_among : Option NamedList → List ℕ
name_among None = []
name_among (Some list) = list.name

-- the name of the guest of the list with this number
abbrev pub name_in : List NamedList → (number : ℕ) → List ℕ
name_in lists number = name_among (slice_get lists number)

-- a part and its value; a tax is in percent
unfoldable pub part_words : ValueLists → Part → (value : ℕ) → List ℕ
part_words lists Swap value = codes "swap " ++ decimal value
part_words lists Tax value = codes "tax " ++ shown Hundredths value
part_words lists PageRate value = codes "page rate " ++ decimal value
part_words lists Rebalance value = codes "rebalance " ++ decimal value
part_words lists Percent value = codes "min " ++ (decimal value ++ codes "%")
part_words lists (Minimum number) value = codes "min " ++ (name_in lists.minimums number ++ (codes " " ++ decimal value))
part_words lists (Shares number) value = codes "shares " ++ (name_in lists.shares number ++ (codes " " ++ decimal value))

-- ---- names

-- whether a part is not the same in all combinations
abbrev pub differs : List Variant → Part → Bool
differs [] part = false
differs (first ∷ rest) part = list_any (λ v. not (value_of part v == value_of part first)) (first ∷ rest)

-- those of these parts that differ
abbrev pub words_among : ValueLists → List Part → (combinations : List Variant) → Variant → List (List ℕ)
words_among lists parts combinations v = map (λ part. part_words lists part (value_of part v)) (filter (differs combinations) parts)

abbrev pub words_of : ValueLists → (combinations : List Variant) → Variant → List (List ℕ)
words_of lists combinations v = words_among lists (parts_of lists) combinations v

abbrev pub named : List (List ℕ) → List ℕ
named [] = codes "all"
named (word ∷ words) = join_by (λ w. w) (codes ", ") (word ∷ words)

-- the name of a combination among all
abbrev pub curve_name : ValueLists → (combinations : List Variant) → Variant → List ℕ
curve_name lists combinations v = named (words_of lists combinations v)

-- the names of all
abbrev pub curve_names : ValueLists → (combinations : List Variant) → List (List ℕ)
curve_names lists combinations = map (curve_name lists combinations) combinations
