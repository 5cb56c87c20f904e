-- How a table keeps its values.
use Rattle.std.specs.Prelude.{◌≡◌, ℕ, ◌≤◌, List, map, length, get_or, slice_get, Option, Some, None}
use Rattle.std.specs.Ordering.{nat_cmp}
use Rattle.std.specs.FinMap.{len, from_entries}
use Rattle.vm_swap.specs.declared.table.Slot.{Slot}

-- the page in each slot, with its value
abbrev pub entries_of : {V : Type 0} → List (Slot V) → List (ℕ × V)
entries_of slots = map (λ s. (s.page, s.value)) slots

-- the page in each slot
abbrev pub pages_of : {V : Type 0} → List (ℕ × V) → List ℕ
pages_of es = map (λ e. e.0) es

-- the index finds the slot of each page that is in one, and no other
pub record Indexes (index : List (Option ℕ)) (pages : List ℕ) : Type 0 where
  pub listed : (page slot : ℕ) → get_or index page None ≡ Some slot → slice_get pages slot ≡ Some page
  pub indexed : (page slot : ℕ) → slice_get pages slot ≡ Some page → get_or index page None ≡ Some slot

-- the pages have slots that the index finds, and the index has a place for each page that a guest can have
pub record IsKept {V : Type 0} (entries : List (ℕ × V)) (index : List (Option ℕ)) : Type 0 where
  pub indexes : Indexes index (pages_of entries)
  pub counted : len (from_entries {R = nat_cmp} entries) ≡ length entries
  pub few : length entries ≤ 262144
  pub places : length index ≡ 262144
