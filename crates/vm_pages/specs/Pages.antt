-- Sets of the pages of a guest: one flag for each page, which says whether the page is in the set. The length of the list is
-- the guest's size in pages.
use Rattle.std.specs.Prelude.{ℕ, ◌+◌, ◌||◌, Bool, true, false, not, List, [], ◌∷◌, Option, Some, None, take, replicate, fold, slice_set, slice_index_or, count_by}

-- the empty set, of a guest of `size` pages
abbrev pub no_pages : ℕ → List Bool
no_pages size = replicate size false

-- the set of all pages of a guest of `size` pages
abbrev pub all_pages : ℕ → List Bool
all_pages size = replicate size true

-- whether the page is in the set; no page past the guest's size is
abbrev pub contains : List Bool → ℕ → Bool
contains pages page = slice_index_or pages page false

-- the set with the page too
abbrev pub insert : List Bool → ℕ → List Bool
insert pages page = slice_set pages page true

-- the set without the page
abbrev pub remove : List Bool → ℕ → List Bool
remove pages page = slice_set pages page false

-- the set with each of a list of pages too
abbrev pub insert_all : List Bool → List ℕ → List Bool
insert_all pages added = fold insert pages added

-- the set without any of a list of pages
abbrev pub remove_all : List Bool → List ℕ → List Bool
remove_all pages removed = fold remove pages removed

-- the pages that are in neither of two sets
abbrev pub neither : List Bool → List Bool → List Bool
neither (a ∷ pages) (b ∷ others) = not (a || b) ∷ neither pages others
neither _ _ = []

-- the set without a page, if one is given
abbrev pub without : List Bool → Option ℕ → List Bool
without pages None = pages
without pages (Some page) = remove pages page

-- how many pages are in the set
abbrev pub count : List Bool → ℕ
count pages = count_by (λ marked. marked) pages

-- how many of them stand below a page
abbrev pub count_below : List Bool → ℕ → ℕ
count_below pages page = count (take page pages)

-- the pages of the set in rising order, where the first flag is that of page `first`
abbrev pub members_from : ℕ → List Bool → List ℕ
members_from first [] = []
members_from first (true ∷ pages) = first ∷ members_from (first + 1) pages
members_from first (false ∷ pages) = members_from (first + 1) pages

-- the pages of the set in rising order
abbrev pub members : List Bool → List ℕ
members pages = members_from 0 pages
