-- The units of the table are those that are read.
use Rattle.std.proofs.Common.{◌≡◌, ℕ, ◌+◌, ◌==◌, nat_lt, if◌then◌else◌, ◌||◌, inl, inr, Bool, true, false, cond, bytes_eq, List, [], ◌∷◌, length, map, codes, Option, Some, None, refl, ap, sym, subst, ◌∙◌, arith}
use Rattle.std.proofs.lemmas.Bool.{eqb-true, ltb-true}
use Rattle.std.proofs.lemmas.Bool.Decides.{nat_tests}
use Rattle.std.proofs.lemmas.List.Sums.{AllPass-from_list_all}
use Rattle.std.specs.Char.{is_ascii_digit, to_ascii_lowercase}
use Rattle.std.specs.Cmp.Lexicographic.{bytes_decides}
use Rattle.std.specs.List.{Contains, slice_index_or, prefix_len, list_all}
use Rattle.std.specs.Option.{option_map_or}
use Rattle.vm_commands.specs.SizeGrammar.{units}
use Rattle.vm_commands.specs.Sizes.{is_named, unit_of}
use Rattle.vm_commands.proofs.Choices.{chosen, either}

-- a suffix that has the name of an entry has its unit
unit_row : (suffix : List ℕ) (u : ℕ) (k unit : ℕ) (name : List ℕ) → nat_lt k (length units) ≡ true → slice_index_or units k (name, unit) ≡ (name, unit) → is_named suffix name ≡ true → Some unit ≡ Some u → Contains units (map to_ascii_lowercase suffix, u)
unit_row suffix u k unit name below entry named same =
    let name_is = (bytes_decides (map to_ascii_lowercase suffix) name).0 named in
    let unit_is : unit ≡ u = cc in
    subst (Contains units) (λ i. (sym name_is i, unit_is i)) (k, ltb-true k (length units) below, entry)

-- what is read as a unit stands in the table
pub unit_from : (suffix : List ℕ) (u : ℕ) → unit_of suffix ≡ Some u → Contains units (map to_ascii_lowercase suffix, u)
unfolding unit_of
unit_from suffix u h =
    let entry = unit_row suffix u in
    elim (chosen (is_named suffix (codes "") || is_named suffix (codes "k") || is_named suffix (codes "kib")) _ _ _ h) [
      | inl hit ↦ elim (either _ _ hit.0) [
        | inl two ↦ elim (either _ _ two) [
          | inl is ↦ entry 0 1024 (codes "") refl refl is hit.1
          | inr is ↦ entry 1 1024 (codes "k") refl refl is hit.1
        ]
        | inr is ↦ entry 2 1024 (codes "kib") refl refl is hit.1
      ]
      | inr miss ↦ elim (chosen (is_named suffix (codes "b") || is_named suffix (codes "byte") || is_named suffix (codes "bytes")) _ _ _ miss.1) [
        | inl hit ↦ elim (either _ _ hit.0) [
          | inl two ↦ elim (either _ _ two) [
            | inl is ↦ entry 3 1 (codes "b") refl refl is hit.1
            | inr is ↦ entry 4 1 (codes "byte") refl refl is hit.1
          ]
          | inr is ↦ entry 5 1 (codes "bytes") refl refl is hit.1
        ]
        | inr miss ↦ elim (chosen (is_named suffix (codes "kb")) _ _ _ miss.1) [
          | inl hit ↦ entry 6 1000 (codes "kb") refl refl hit.0 hit.1
          | inr miss ↦ elim (chosen (is_named suffix (codes "m") || is_named suffix (codes "mib")) _ _ _ miss.1) [
            | inl hit ↦ elim (either _ _ hit.0) [
              | inl is ↦ entry 7 1048576 (codes "m") refl refl is hit.1
              | inr is ↦ entry 8 1048576 (codes "mib") refl refl is hit.1
            ]
            | inr miss ↦ elim (chosen (is_named suffix (codes "mb")) _ _ _ miss.1) [
              | inl hit ↦ entry 9 1000000 (codes "mb") refl refl hit.0 hit.1
              | inr miss ↦ elim (chosen (is_named suffix (codes "g") || is_named suffix (codes "gib")) _ _ _ miss.1) [
                | inl hit ↦ elim (either _ _ hit.0) [
                  | inl is ↦ entry 10 1073741824 (codes "g") refl refl is hit.1
                  | inr is ↦ entry 11 1073741824 (codes "gib") refl refl is hit.1
                ]
                | inr miss ↦ elim (chosen (is_named suffix (codes "gb")) _ _ _ miss.1) [
                  | inl hit ↦ entry 12 1000000000 (codes "gb") refl refl hit.0 hit.1
                  | inr miss ↦ (let none = miss.1 in absurd cc)
                ]
              ]
            ]
          ]
        ]
      ]
    ]

-- a fact that is computed for each entry is true of a unit in the table
of_row : (test : List ℕ × ℕ → Bool) → list_all test units ≡ true → (entry : List ℕ × ℕ) → Contains units entry → test entry ≡ true
of_row test all entry h = subst (λ r. test r ≡ true) h.2 (AllPass-from_list_all test units all h.0 entry h.1)

-- the unit of a name in lower case
unit_named : List ℕ → Option ℕ
unit_named name =
    if bytes_eq name (codes "") || bytes_eq name (codes "k") || bytes_eq name (codes "kib") then Some 1024
    else if bytes_eq name (codes "b") || bytes_eq name (codes "byte") || bytes_eq name (codes "bytes") then Some 1
    else if bytes_eq name (codes "kb") then Some 1000
    else if bytes_eq name (codes "m") || bytes_eq name (codes "mib") then Some 1048576
    else if bytes_eq name (codes "mb") then Some 1000000
    else if bytes_eq name (codes "g") || bytes_eq name (codes "gib") then Some 1073741824
    else if bytes_eq name (codes "gb") then Some 1000000000
    else None

is_unit : (o : Option ℕ) (unit : ℕ) → option_map_or (λ u. u == unit) o false ≡ true → o ≡ Some unit
is_unit (Some u) unit h = ap Some (eqb-true u unit h)
is_unit None unit h = absurd cc

-- what stands in the table is read as its unit
pub unit_of-named : (suffix : List ℕ) (u : ℕ) → Contains units (map to_ascii_lowercase suffix, u) → unit_of suffix ≡ Some u
unfolding unit_of unit_named
unit_of-named suffix u h =
    is_unit (unit_named (map to_ascii_lowercase suffix)) u
    (of_row (λ entry. option_map_or (λ unit. unit == entry.1) (unit_named entry.0) false) refl (map to_ascii_lowercase suffix, u) h)

lower_digit : (c : ℕ) → is_ascii_digit (to_ascii_lowercase c) ≡ is_ascii_digit c
lower_digit c = grind (arith, nat_tests)

-- the names of units don't begin with a digit
name_front : (suffix : List ℕ) → prefix_len is_ascii_digit (map to_ascii_lowercase suffix) ≡ 0 → prefix_len is_ascii_digit suffix ≡ 0
name_front [] h = refl
name_front (c ∷ cs) h =
    elim (chosen (is_ascii_digit (to_ascii_lowercase c)) (1 + prefix_len is_ascii_digit (map to_ascii_lowercase cs)) 0 0 h) [
      | inl digit ↦ (let one = digit.1 in absurd (omega arith))
      | inr other ↦ ap (λ b. cond b (1 + prefix_len is_ascii_digit cs) 0) (sym (lower_digit c) ∙ other.0)
    ]

pub suffix_front : (suffix : List ℕ) (u : ℕ) → Contains units (map to_ascii_lowercase suffix, u) → prefix_len is_ascii_digit suffix ≡ 0
suffix_front suffix u h =
    name_front suffix (eqb-true _ _ (of_row (λ entry. prefix_len is_ascii_digit entry.0 == 0) refl (map to_ascii_lowercase suffix, u) h))
