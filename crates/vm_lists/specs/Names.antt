-- Which names lists may have: each is a name, by a rule, and no earlier list's.
use Rattle.std.specs.Prelude.{◌≡◌, ◌≢◌, ◌<◌, ◌++◌, ◌∷◌, [], ⊤, ℕ, All, Bool, Contains, List, bytes_eq, false, true, if◌then◌else◌, length, map, not, take, Option, Some, None, Result, Ok, Err}
use Rattle.std.specs.List.{AllPairs, list_any, slice_index_or}
use Rattle.std.specs.Option.{option_map_or}
use Rattle.vm_lists.specs.declared.faults.NameFault.{NameFault}
use Rattle.vm_lists.specs.declared.faults.NameFaultKind.{NameFaultKind}
use Rattle.vm_lists.specs.declared.faults.NameFaultKind.TheVariants.{NoName, Twice}
use Rattle.vm_lists.specs.declared.named.NamedList.{NamedList}

abbrev pub names_in : List NamedList → List (List ℕ)
names_in lists = map (λ list. list.name.now) lists

-- ---- as relations

-- each is a name, and no two are the same
pub record AreNames (is_name : List ℕ → Bool) (names : List (List ℕ)) : Type 0 where
  pub each : All (λ name. is_name name ≡ true) names
  pub differ : AllPairs (λ a b. a ≢ b) names

-- what is wrong with a name behind these ones
abbrev pub IsWrong : (List ℕ → Bool) → List (List ℕ) → List ℕ → NameFaultKind → Type 0
IsWrong is_name earlier name NoName = is_name name ≡ false
IsWrong is_name earlier name Twice = (is_name name ≡ true) × Contains earlier name

-- the names in front of this place are good, and that one isn't
pub record IsNameFault (is_name : List ℕ → Bool) (names : List (List ℕ)) (fault : NameFault) : Type 0 where
  pub inside : fault.place < length names
  pub before : AreNames is_name (take fault.place names)
  pub wrong : IsWrong is_name (take fault.place names) (slice_index_or names fault.place []) fault.kind

-- ---- as functions

abbrev pub has_name : List ℕ → List (List ℕ) → Bool
has_name name names = list_any (λ other. bytes_eq other name) names

-- what is wrong with a name behind these ones, if anything is
abbrev pub name_fault : (List ℕ → Bool) → List (List ℕ) → List ℕ → Option NameFaultKind
name_fault is_name earlier name =
    if not (is_name name) then Some NoName
    else if has_name name earlier then Some Twice
    else None

-- the first fault of names, behind these ones
abbrev pub checked_behind : (List ℕ → Bool) → List (List ℕ) → List (List ℕ) → Result ⊤ NameFault
checked_behind is_name earlier [] = Ok tt
checked_behind is_name earlier (name ∷ names) =
    option_map_or (λ kind. Err (record { place = length earlier; kind = kind })) (name_fault is_name earlier name)
    (checked_behind is_name (earlier ++ name ∷ []) names)

-- the first fault of names
abbrev pub checked_names : (List ℕ → Bool) → List (List ℕ) → Result ⊤ NameFault
checked_names is_name names = checked_behind is_name [] names
