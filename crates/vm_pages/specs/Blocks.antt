-- How a set of pages is kept: a flag for each page, and a count for each block of 2048 pages, so that the k-th page of the set
-- is found by passing over the counts and then over one block.
use Rattle.std.specs.Prelude.{◌≡◌, ℕ, ◌+◌, ◌*◌, ◌<◌, ◌≤◌, ◌^◌, Bool, List, length, slice_index}
use Rattle.vm_pages.specs.Pages.{count, count_below}

-- the blocks cover all pages, and each has its count; the set has its length
pub record AreCounted (pages : List Bool) (counts : List ℕ) (len : ℕ) : Type 0 where
  pub blocks : length pages ≤ length counts * 2048
  pub few : length counts ≤ length pages
  pub each : (block : ℕ) → block < length counts → count_below pages (block * 2048) + slice_index counts block ≡ count_below pages ((block + 1) * 2048)
  pub all : len ≡ count pages
  pub fits : length pages < 2 ^ 32
