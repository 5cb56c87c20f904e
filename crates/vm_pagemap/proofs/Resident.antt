-- For callers: the pages that are in, and how many, after one page has changed.
use Rattle.std.proofs.Common.{◌≡◌, ℕ, zero, suc, ◌+◌, ◌<◌, ◌≤◌, false, List, ◌∷◌, length, set, get_or, refl, sym, ap, ◌∙◌, inl, inr, arith}
use Rattle.std.proofs.lemmas.Bool.{cases_lt}
use Rattle.std.proofs.lemmas.List.{map-set, set-get_or, get_or-map, get_or_past, length-set, length-map, length-replicate}
use Rattle.vm_pages.specs.Pages.{no_pages, contains, insert, remove, count, members}
use Rattle.vm_pages.proofs.PageSets.{lt-length, count-no_pages, count-insert, count-remove, count-le-length, count-lt-length, count-positive}
use Rattle.vm_pages.proofs.Listings.{contains-nth}
use Rattle.vm_frames.specs.Frame.{FrameView}
use Rattle.vm_pagemap.specs.declared.page_map.Page.{Page}
use Rattle.vm_pagemap.specs.declared.page_map.Page.TheVariants.{Absent, In, Out}
use Rattle.vm_pagemap.specs.PageMap.{absent_pages, page_at, resident, is_in, written, IsIn, IsNotIn}

-- a new guest has no page that is in
pub resident-absent_pages : (size : ℕ) → resident (absent_pages size) ≡ no_pages size
resident-absent_pages zero = refl
resident-absent_pages (suc size) = ap (λ rest. false ∷ rest) (resident-absent_pages size)

pub count-resident_absent_pages : (size : ℕ) → count (resident (absent_pages size)) ≡ 0
count-resident_absent_pages size = ap count (resident-absent_pages size) ∙ count-no_pages size

pub length-absent_pages : (size : ℕ) → length (absent_pages size) ≡ size
length-absent_pages size = length-replicate size Absent

-- the set of the pages that are in is as long as the map
pub length-resident : (pages : List Page) → length (resident pages) ≡ length pages
length-resident pages = length-map pages is_in

-- a change keeps the guest's size
pub length-set_page : (pages : List Page) (page : ℕ) (new : Page) → length (set pages page new) ≡ length pages
length-set_page pages page new = length-set pages page new

-- a page is of the set exactly where it is in
pub contains-resident : (pages : List Page) (page : ℕ) → contains (resident pages) page ≡ is_in (page_at pages page)
contains-resident pages page =
    elim (cases_lt page (length pages)) [
      | inl below ↦ get_or-map is_in pages page Absent false below
      | inr past ↦
          get_or_past (resident pages) page false (omega (arith, length-resident pages))
          ∙ sym (ap is_in (get_or_past pages page Absent past))
    ]

-- a page that is in is one of the guest's
pub lt-length_of_in : (pages : List Page) (page : ℕ) → IsIn (page_at pages page) → page < length pages
lt-length_of_in pages page there = omega (arith, length-resident pages, lt-length (resident pages) page (contains-resident pages page ∙ there))

-- the set after a page has changed
pub resident-set : (pages : List Page) (page : ℕ) (new : Page) → resident (set pages page new) ≡ set (resident pages) page (is_in new)
resident-set pages page new = map-set is_in pages page new

pub resident-put : (pages : List Page) (page : ℕ) (frame : FrameView) → resident (set pages page (In frame)) ≡ insert (resident pages) page
resident-put pages page frame = resident-set pages page (In frame)

pub resident-set_absent : (pages : List Page) (page : ℕ) → resident (set pages page Absent) ≡ remove (resident pages) page
resident-set_absent pages page = resident-set pages page Absent

pub resident-set_out : (pages : List Page) (page : ℕ) → resident (set pages page Out) ≡ remove (resident pages) page
resident-set_out pages page = resident-set pages page Out

-- a page that is in, or isn't, as before
pub resident-set_alike : (pages : List Page) (page : ℕ) (new : Page) → is_in (page_at pages page) ≡ is_in new → resident (set pages page new) ≡ resident pages
resident-set_alike pages page new alike =
    resident-set pages page new ∙ ap (λ b. set (resident pages) page b) (sym (contains-resident pages page ∙ alike)) ∙ set-get_or (resident pages) page false

pub resident-mark_out : (pages : List Page) (page : ℕ) → IsNotIn (page_at pages page) → resident (set pages page Out) ≡ resident pages
resident-mark_out pages page not_in = resident-set_alike pages page Out not_in

pub resident-mark_absent : (pages : List Page) (page : ℕ) → IsNotIn (page_at pages page) → resident (set pages page Absent) ≡ resident pages
resident-mark_absent pages page not_in = resident-set_alike pages page Absent not_in

pub is_in-written : (page : Page) (offset : ℕ) (new : List ℕ) → is_in (written page offset new) ≡ is_in page
is_in-written Absent offset new = refl
is_in-written (In frame) offset new = refl
is_in-written Out offset new = refl

pub resident-write : (pages : List Page) (page offset : ℕ) (new : List ℕ) → resident (set pages page (written (page_at pages page) offset new)) ≡ resident pages
resident-write pages page offset new = resident-set_alike pages page _ (sym (is_in-written (page_at pages page) offset new))

-- how many pages are in, after a frame was put under a page, or taken from it
pub count-resident_put : (pages : List Page) (page : ℕ) (frame : FrameView) → page < length pages → IsNotIn (page_at pages page) → count (resident (set pages page (In frame))) ≡ count (resident pages) + 1
count-resident_put pages page frame there not_in =
    ap count (resident-put pages page frame) ∙ count-insert (resident pages) page (omega (arith, length-resident pages)) (contains-resident pages page ∙ not_in)

pub count-resident_remove : (pages : List Page) (page : ℕ) → IsIn (page_at pages page) → count (resident (set pages page Absent)) + 1 ≡ count (resident pages)
count-resident_remove pages page there =
    omega (arith, ap count (resident-set_absent pages page), count-remove (resident pages) page (contains-resident pages page ∙ there))

-- as many after a page without a frame was marked, or bytes were written
pub count-resident_mark_out : (pages : List Page) (page : ℕ) → IsNotIn (page_at pages page) → count (resident (set pages page Out)) ≡ count (resident pages)
count-resident_mark_out pages page not_in = ap count (resident-mark_out pages page not_in)

pub count-resident_mark_absent : (pages : List Page) (page : ℕ) → IsNotIn (page_at pages page) → count (resident (set pages page Absent)) ≡ count (resident pages)
count-resident_mark_absent pages page not_in = ap count (resident-mark_absent pages page not_in)

pub count-resident_write : (pages : List Page) (page offset : ℕ) (new : List ℕ) → count (resident (set pages page (written (page_at pages page) offset new))) ≡ count (resident pages)
count-resident_write pages page offset new = ap count (resident-write pages page offset new)

-- a page that is in is counted, and one that isn't leaves room
pub count-resident_positive : (pages : List Page) (page : ℕ) → IsIn (page_at pages page) → 0 < count (resident pages)
count-resident_positive pages page there = count-positive (resident pages) page (contains-resident pages page ∙ there)

pub count-resident-le-length : (pages : List Page) → count (resident pages) ≤ length pages
count-resident-le-length pages = omega (arith, length-resident pages, count-le-length (resident pages))

pub count-resident-lt-length : (pages : List Page) (page : ℕ) → page < length pages → IsNotIn (page_at pages page) → count (resident pages) < length pages
count-resident-lt-length pages page there not_in =
    omega (arith, length-resident pages, count-lt-length (resident pages) page (omega (arith, length-resident pages)) (contains-resident pages page ∙ not_in))

-- the k-th page that is in is in
pub is_in-nth : (pages : List Page) (k : ℕ) → k < count (resident pages) → IsIn (page_at pages (get_or (members (resident pages)) k 0))
is_in-nth pages k few = sym (contains-resident pages (get_or (members (resident pages)) k 0)) ∙ contains-nth (resident pages) k few
