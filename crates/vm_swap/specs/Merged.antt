-- The pages of an area, some kept whole and the others as what was written to them.
use Rattle.std.specs.Prelude.{◌≡◌, ℕ, true, ◌<◌, ◌≤◌, ◌^◌, ◌++◌, List, map, None, is_some, min}
use Rattle.std.specs.Ordering.{nat_cmp}
use Rattle.std.specs.FinMap.{FinMap, get, len, entries, from_entries}
use Rattle.vm_patches.specs.declared.patch.ByteWrite.{ByteWrite}
use Rattle.vm_patches.specs.Patches.{patched, zero_bytes}
use Rattle.vm_swap.specs.Table.{TableView}

abbrev pub Whole : Type 0
Whole = FinMap nat_cmp (List ℕ)

abbrev pub Few : Type 0
Few = FinMap nat_cmp (List ByteWrite)

-- the bytes of each page that is in one of the two
unfoldable pub merged : Whole → Few → Whole
merged whole few = from_entries (entries whole ++ map (λ e. (e.0, patched zero_bytes e.1)) (entries few))

-- no page is in both, and each page that the capacity still allows has room in each without more memory
pub record IsParted (capacity : ℕ) (whole : TableView (List ℕ)) (few : TableView (List ByteWrite)) : Type 0 where
  pub apart : (page : ℕ) → is_some (get whole.values page) ≡ true → get few.values page ≡ None
  pub within : len (merged whole.values few.values) ≤ capacity
  pub small : capacity < 2 ^ 32
  pub whole_room : min capacity 262144 ≤ whole.room
  pub few_room : min capacity 262144 ≤ few.room
