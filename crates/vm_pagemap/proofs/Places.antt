-- For callers: where the pages are, after one page has changed.
use Rattle.std.proofs.Common.{◌≡◌, ◌≢◌, ℕ, ◌<◌, true, false, List, [], ◌∷◌, length, map, set, get_or, refl, sym, ap, ◌∙◌, inl, inr, arith}
use Rattle.std.proofs.lemmas.Bool.{cases_lt}
use Rattle.std.proofs.lemmas.List.{map-set, set-get_or, get_or-map, get_or-set_same, get_or-set_other, get_or_past, length-map}
use Rattle.vm_frames.specs.Frame.{FrameView}
use Rattle.vm_pagemap.specs.declared.page_map.Page.{Page}
use Rattle.vm_pagemap.specs.declared.page_map.Page.TheVariants.{Absent, In, Out}
use Rattle.vm_pagemap.specs.declared.page_map.Place.TheVariants.{Absent as IsAbsentPlace, In as IsInPlace, Out as IsOutPlace}
use Rattle.vm_patches.specs.Patches.{overwritten}
use Rattle.vm_pagemap.specs.PageMap.{page_at, place_of, places_of, resident, bytes_of, frame_of, is_in, is_in_place, written, IsIn}

-- what a page is after it has changed
pub page_at-set : (pages : List Page) (page : ℕ) (new : Page) → page < length pages → page_at (set pages page new) page ≡ new
page_at-set pages page new there = get_or-set_same pages page new Absent there

pub page_at-set_other : (pages : List Page) (page other : ℕ) (new : Page) → other ≢ page → page_at (set pages page new) other ≡ page_at pages other
page_at-set_other pages page other new differs = get_or-set_other pages page other new Absent differs

-- a page that is in is in a frame
pub frame_of_in : (page : Page) → IsIn page → (frame : FrameView) × (page ≡ In frame)
frame_of_in Absent there = let no : false ≡ true = there in absurd (cc)
frame_of_in (In frame) there = (frame, refl)
frame_of_in Out there = let no : false ≡ true = there in absurd (cc)

-- what a place says of its page
pub is_in-place_of : (page : Page) → is_in_place (place_of page) ≡ is_in page
is_in-place_of Absent = refl
is_in-place_of (In frame) = refl
is_in-place_of Out = refl

pub IsIn-of_place : (page : Page) → place_of page ≡ IsInPlace → IsIn page
IsIn-of_place page place = sym (is_in-place_of page) ∙ ap is_in_place place

pub Absent-of_place : (page : Page) → place_of page ≡ IsAbsentPlace → page ≡ Absent
Absent-of_place Absent place = refl
Absent-of_place (In frame) place = absurd (cc)
Absent-of_place Out place = absurd (cc)

pub Out-of_place : (page : Page) → place_of page ≡ IsOutPlace → page ≡ Out
Out-of_place Absent place = absurd (cc)
Out-of_place (In frame) place = absurd (cc)
Out-of_place Out place = refl

-- the list of places
pub length-places_of : (pages : List Page) → length (places_of pages) ≡ length pages
length-places_of pages = length-map pages place_of

pub place_at : (pages : List Page) (page : ℕ) → get_or (places_of pages) page IsAbsentPlace ≡ place_of (page_at pages page)
place_at pages page =
    elim (cases_lt page (length pages)) [
      | inl below ↦ get_or-map place_of pages page Absent IsAbsentPlace below
      | inr past ↦
          get_or_past (places_of pages) page IsAbsentPlace (omega (arith, length-places_of pages))
          ∙ sym (ap place_of (get_or_past pages page Absent past))
    ]

pub places_of-set : (pages : List Page) (page : ℕ) (new : Page) → places_of (set pages page new) ≡ set (places_of pages) page (place_of new)
places_of-set pages page new = map-set place_of pages page new

pub place_of-written : (page : Page) (offset : ℕ) (new : List ℕ) → place_of (written page offset new) ≡ place_of page
place_of-written Absent offset new = refl
place_of-written (In frame) offset new = refl
place_of-written Out offset new = refl

-- a write moves no page
pub places_of-write : (pages : List Page) (page offset : ℕ) (new : List ℕ) → places_of (set pages page (written (page_at pages page) offset new)) ≡ places_of pages
places_of-write pages page offset new =
    places_of-set pages page _
    ∙ ap (λ place. set (places_of pages) page place) (place_of-written (page_at pages page) offset new ∙ sym (place_at pages page))
    ∙ set-get_or (places_of pages) page IsAbsentPlace

-- the bytes of a page that is in, after a write
pub bytes_of-written : (page : Page) (offset : ℕ) (new : List ℕ) → IsIn page → bytes_of (written page offset new) ≡ overwritten (bytes_of page) offset new
bytes_of-written Absent offset new there = let no : false ≡ true = there in absurd (cc)
bytes_of-written (In frame) offset new there = refl
bytes_of-written Out offset new there = let no : false ≡ true = there in absurd (cc)

-- the places say which pages are in
pub resident-places_of : (pages : List Page) → resident pages ≡ map is_in_place (places_of pages)
resident-places_of [] = refl
resident-places_of (Absent ∷ pages) = ap (λ rest. false ∷ rest) (resident-places_of pages)
resident-places_of (In frame ∷ pages) = ap (λ rest. true ∷ rest) (resident-places_of pages)
resident-places_of (Out ∷ pages) = ap (λ rest. false ∷ rest) (resident-places_of pages)

-- a page that is in has a frame
pub in-frame : (p : Page) → is_in p ≡ true → p ≡ In (frame_of p)
in-frame Absent there = let no : false ≡ true = there in absurd (cc)
in-frame (In frame) there = refl
in-frame Out there = let no : false ≡ true = there in absurd (cc)
