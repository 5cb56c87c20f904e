-- What is kept of touches: the pages that they touch first, and the touches of an interval that no earlier one covers.
use Rattle.std.specs.Prelude.{ℕ, ◌==◌, ◌&&◌, ◌||◌, Bool, not, List, [], ◌∷◌, ◌++◌, map, if◌then◌else◌}
use Rattle.std.specs.List.{list_any, position_or_len}
use Rattle.vm_import.specs.declared.touch.Touch.{Touch}
use Rattle.vm_import.specs.declared.touch.RankedTouch.{RankedTouch}

-- both touches are of one page
abbrev pub is_of_page : Touch → Touch → Bool
is_of_page earlier later = later.page == earlier.page

-- the earlier touch covers the later one: it is of the same page, and writes, or reads as that does
abbrev pub covers : Touch → Touch → Bool
covers earlier later = is_of_page earlier later && (earlier.writes || not later.writes)

-- those of the touches for which no earlier one passes the test, in order; `before` are the ones before the list
abbrev pub without_earlier : (Touch → Touch → Bool) → List Touch → List Touch → List Touch
without_earlier test before [] = []
without_earlier test before (touch ∷ touches) =
    let rest = without_earlier test (before ++ touch ∷ []) touches in
    if list_any (λ earlier. test earlier touch) before then rest else touch ∷ rest

-- the touches of an interval that no earlier one covers
abbrev pub uncovered : List Touch → List Touch
uncovered touches = without_earlier covers [] touches

-- the pages in the order of their first touches
abbrev pub first_touches : List Touch → List ℕ
first_touches touches = map (λ t. t.page) (without_earlier is_of_page [] touches)

-- the place of a page in a list of pages, or their number where it isn't one of them
abbrev pub rank_of : List ℕ → ℕ → ℕ
rank_of pages page = position_or_len (λ p. page == p) pages

-- the touch, with its page's rank in place of the page
abbrev pub ranked : List ℕ → Touch → RankedTouch
ranked pages t = record { rank = rank_of pages t.page; offset = t.offset; writes = t.writes }
