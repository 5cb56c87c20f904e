-- How an index keeps the slot of each page.
use Rattle.std.specs.Prelude.{◌≡◌, ℕ, zero, suc, List, map, length, replicate, Option, Some, None}
use Rattle.vm_pages.specs.PageTable.{Items}

-- the slot that a mark says: 0 says none
abbrev pub slot_of : ℕ → Option ℕ
slot_of zero = None
slot_of (suc slot) = Some slot

-- the slot of each page
abbrev pub slots_of : List ℕ → List (Option ℕ)
slots_of marks = map slot_of marks

-- no page has a slot
unfoldable pub no_slots : List (Option ℕ)
no_slots = replicate 262144 None

-- there is a mark of each page that a guest can have, and it says no slot where nothing else was written
pub record IsWhole (marks : Items ℕ) : Type 0 where
  pub first : marks.first ≡ 0
  pub each : length marks.list ≡ 262144
