-- How a set marks its pages: by a bit for each, 64 to a word, the page of least number in the lowest bit.
use Rattle.std.specs.Prelude.{◌==◌, ℕ, ◌-◌, ◌*◌, ◌/◌, ◌%◌, ◌^◌, ◌≤◌, Bool, List, Option, Some, None, bit_and, map, slice_index, if◌then◌else◌}
use Rattle.std.specs.Int.{bit_at}
use Rattle.std.specs.List.{range_with_len}
use Rattle.vm_pages.specs.Blocks.{AreCounted}
use Rattle.vm_pages.specs.Runs.{without_bit}

-- whether the page's bit is set; past the words no bit is
abbrev pub is_marked : List ℕ → ℕ → Bool
is_marked words page = bit_at (slice_index words (page / 64)) (page % 64) == 1

-- the set of the marked pages of a guest of `size` pages
unfoldable pub marked : List ℕ → ℕ → List Bool
marked words size = map (is_marked words) (range_with_len 0 size)

-- the marks of a word without that of a page, if one is given and is of the word
abbrev pub but_page : ℕ → Option ℕ → ℕ → ℕ
but_page marks None word = marks
but_page marks (Some page) word = if page / 64 == word then without_bit marks page else marks

-- the bits of a word's pages that neither of two sets of words marks, but for one page that may be left out
unfoldable pub outside_word : List ℕ → List ℕ → Option ℕ → ℕ → ℕ
outside_word words others except word = but_page (bit_and (2 ^ 64 - 1 - slice_index words word) (2 ^ 64 - 1 - slice_index others word)) except word

-- there is room for a word with a bit for each page, and the blocks of the set that the words mark have their counts
pub record AreKept (words : List ℕ) (room : ℕ) (size : ℕ) (counts : List ℕ) (len : ℕ) : Type 0 where
  pub marks : size ≤ room * 64
  pub counted : AreCounted (marked words size) counts len
