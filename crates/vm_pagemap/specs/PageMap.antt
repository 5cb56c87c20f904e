-- A guest's pages, each with its place and, where it is in, its frame.
use Rattle.std.specs.Prelude.{◌≡◌, ℕ, Bool, true, false, List, [], map, replicate, slice_index_or}
use Rattle.vm_frames.specs.Frame.{FrameView}
use Rattle.vm_patches.specs.Patches.{overwritten}
use Rattle.vm_pagemap.specs.declared.page_map.Page.{Page}
use Rattle.vm_pagemap.specs.declared.page_map.Page.TheVariants.{Absent, In, Out}
use Rattle.vm_pagemap.specs.declared.page_map.Place.{Place}
use Rattle.vm_pagemap.specs.declared.page_map.Place.TheVariants.{Absent as IsAbsentPlace, In as IsInPlace, Out as IsOutPlace}

-- the pages of a new guest
abbrev pub absent_pages : ℕ → List Page
absent_pages size = replicate size Absent

-- the page of this number; no page past the guest's size is anywhere
abbrev pub page_at : List Page → ℕ → Page
page_at pages page = slice_index_or pages page Absent

-- where a page is
abbrev pub place_of : Page → Place
place_of Absent = IsAbsentPlace
place_of (In frame) = IsInPlace
place_of Out = IsOutPlace

-- where each page is
abbrev pub places_of : List Page → List Place
places_of pages = map place_of pages

abbrev pub is_in : Page → Bool
is_in Absent = false
is_in (In frame) = true
is_in Out = false

-- whether a place is in a frame
abbrev pub is_in_place : Place → Bool
is_in_place IsAbsentPlace = false
is_in_place IsInPlace = true
is_in_place IsOutPlace = false

abbrev pub IsIn : Page → Type 0
IsIn page = is_in page ≡ true

abbrev pub IsNotIn : Page → Type 0
IsNotIn page = is_in page ≡ false

-- the set of the pages that are in
abbrev pub resident : List Page → List Bool
resident pages = map is_in pages

-- the bytes of a page that is in
abbrev pub bytes_of : Page → List ℕ
bytes_of Absent = []
bytes_of (In frame) = frame.bytes
bytes_of Out = []

-- the frame of a page that is in
abbrev pub frame_of : Page → FrameView
frame_of Absent = record { number = 0; bytes = [] }
frame_of (In frame) = frame
frame_of Out = record { number = 0; bytes = [] }

-- a page that is in, with bytes written to its frame
abbrev pub written : Page → ℕ → List ℕ → Page
written Absent offset new = Absent
written (In frame) offset new = In (record frame { bytes = overwritten frame.bytes offset new })
written Out offset new = Out
