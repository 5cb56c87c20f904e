-- Which frames are under a guest's pages.
use Rattle.std.specs.Prelude.{ℕ, ◌≤◌, Bool, false, nat_eq, List, [], ◌∷◌, count_by}
use Rattle.std.specs.Ordering.{nat_cmp}
use Rattle.std.specs.FinSet as set
use Rattle.vm_pagemap.specs.declared.page_map.Page.{Page}
use Rattle.vm_pagemap.specs.declared.page_map.Page.TheVariants.{Absent, In, Out}

-- the numbers of the frames
abbrev pub frames_under : List Page → set.FinSet nat_cmp
frames_under [] = set.empty
frames_under (Absent ∷ pages) = frames_under pages
frames_under (In frame ∷ pages) = set.insert (frames_under pages) frame.number
frames_under (Out ∷ pages) = frames_under pages

-- whether a page is in the frame of this number
abbrev pub is_in_frame : ℕ → Page → Bool
is_in_frame number Absent = false
is_in_frame number (In frame) = nat_eq frame.number number
is_in_frame number Out = false

-- no frame is under two pages
pub record AreApart (pages : List Page) : Type 0 where
  pub each : (number : ℕ) → count_by (is_in_frame number) pages ≤ 1
