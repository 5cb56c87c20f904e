-- How a table keeps its items: those of a block of 256 pages behind one another, each block in a place of its own.
use Rattle.std.specs.Prelude.{◌≡◌, ℕ, zero, suc, ◌+◌, ◌-◌, ◌*◌, ◌/◌, ◌%◌, ◌^◌, ◌<◌, min, List, [], ◌∷◌, length, map, get_or, Option, Some, None}
use Rattle.std.specs.List.{range_with_len}

-- the `k`-th place of a block, if it was written: its number is one more than its first place
abbrev pub place_in : ℕ → ℕ → Option ℕ
place_in zero k = None
place_in (suc start) k = Some (start + k)

-- the place of a page's item, if its block was written
abbrev pub place_of : List ℕ → ℕ → Option ℕ
place_of blocks page = place_in (get_or blocks (page / 256) 0) (page % 256)

-- what stands in a place, and the first item where there is none
abbrev pub item_in : {T : Type 0} → T → List T → Option ℕ → T
item_in first items None = first
item_in first items (Some place) = get_or items place first

-- the items of `size` pages
unfoldable pub items_of : {T : Type 0} → ℕ → T → List ℕ → List T → List T
items_of size first blocks items = map (λ page. item_in first items (place_of blocks page)) (range_with_len 0 size)

-- how many of `size` pages lie in blocks that were written
abbrev pub written : ℕ → List ℕ → ℕ
written size [] = 0
written size (zero ∷ blocks) = written (size - 256) blocks
written size (suc start ∷ blocks) = min size 256 + written (size - 256) blocks

-- the items of the blocks that were written fill the places, and no two pages have the same place
pub record ArePlaces (size : ℕ) (blocks : List ℕ) (places : ℕ) : Type 0 where
  pub few : size < 2 ^ 32
  pub reached : length blocks * 256 < size + 256
  pub filled : places ≡ written size blocks
  pub within : (page place : ℕ) → page < size → place_of blocks page ≡ Some place → place < places
  pub apart : (page other place : ℕ) → page < size → other < size → place_of blocks page ≡ Some place → place_of blocks other ≡ Some place → page ≡ other
