-- How a page map keeps its pages: the set of those that are in, the set of those that are out, and the frames in slots, each
-- with its page. Each page that is in finds its slot.
use Rattle.std.specs.Prelude.{◌≡◌, ℕ, ◌<◌, ◌≤◌, ◌^◌, Bool, true, false, List, [], map, length, get_or, vec_capacity}
use Rattle.std.specs.List.{range_with_len}
use Rattle.vm_pages.specs.Pages.{contains, count}
use Rattle.vm_pagemap.specs.declared.page_map.Page.{Page}
use Rattle.vm_pagemap.specs.declared.page_map.Page.TheVariants.{Absent, In, Out}
use Rattle.vm_pagemap.specs.declared.page_map.Held.{Held}
use Rattle.vm_pagemap.specs.declared.page_map.PageMap.TheInside.{Inside}

-- what stands in no slot
abbrev pub nothing_held : Held
nothing_held = record { page = 0; frame = record { number = 0; bytes = [] } }

abbrev pub held_at : List Held → ℕ → Held
held_at held slot = get_or held slot nothing_held

-- a page by its slot, whether it is in, and whether it is out
abbrev pub page_of : Held → Bool → Bool → Page
page_of h true out = In h.frame
page_of h false true = Out
page_of h false false = Absent

-- the page of a number
abbrev pub page_under : List Bool → List Bool → List ℕ → List Held → ℕ → Page
page_under resident out slots held page = page_of (held_at held (get_or slots page 0)) (contains resident page) (contains out page)

-- all of a guest's pages
abbrev pub pages_of : List Bool → List Bool → List ℕ → List Held → List Page
pages_of resident out slots held = map (page_under resident out slots held) (range_with_len 0 (length resident))

-- each page that is in finds its slot, and each slot has a page that is in
pub record AreSlotted (resident : List Bool) (slots : List ℕ) (held : List Held) : Type 0 where
  pub sized : length slots ≡ length resident
  pub within : (page : ℕ) → contains resident page ≡ true → get_or slots page 0 < length held
  pub listed : (page : ℕ) → contains resident page ≡ true → (held_at held (get_or slots page 0)).page ≡ page
  pub owned : (slot : ℕ) → slot < length held → contains resident (held_at held slot).page ≡ true
  pub indexed : (slot : ℕ) → slot < length held → get_or slots (held_at held slot).page 0 ≡ slot

-- the pages have slots, as many as are in; no page is both in and out; and there is room for all to be in
pub record IsKept (m : Inside) : Type 0 where
  pub slotted : AreSlotted m.resident m.slots.list m.held.items
  pub counted : length m.held.items ≡ count m.resident
  pub apart : (page : ℕ) → contains m.resident page ≡ true → contains m.out page ≡ false
  pub same_size : length m.out ≡ length m.resident
  pub fits : length m.resident < 2 ^ 32
  pub room : length m.resident ≤ vec_capacity m.held
