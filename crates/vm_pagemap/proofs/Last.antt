-- The frame that lies last is taken.
use Rattle.std.proofs.Common.{◌≡◌, ℕ, ◌+◌, ◌<◌, Bool, true, List, [], ◌∷◌, ◌++◌, length, get_or, refl, sym, ap, ◌∙◌, arith}
use Rattle.std.proofs.lemmas.List.{length-append, get_or_append_left, get_or_push, set-get_or}
use Rattle.vm_pages.specs.Pages.{contains, count}
use Rattle.vm_pages.proofs.PageSets.{lt-length}
use Rattle.vm_pagemap.specs.declared.page_map.Page.{Page}
use Rattle.vm_pagemap.specs.declared.page_map.Page.TheVariants.{In}
use Rattle.vm_pagemap.specs.declared.page_map.Held.{Held}
use Rattle.vm_pagemap.specs.declared.page_map.PageMap.TheInside.{Inside}
use Rattle.vm_pagemap.specs.PageMap.{page_at, resident, is_in}
use Rattle.vm_pagemap.specs.Kept.{nothing_held, held_at, pages_of, AreSlotted, IsKept}
use Rattle.vm_pagemap.proofs.Kept.{IsTaken, shown-length, shown-in, shown-frame, shown-resident}

module _ (r : List Bool) (slots : List ℕ) (held left : List Held) (h : Held) (x : AreSlotted r slots held) (behind : held ≡ left ++ h ∷ []) where
  length-held : length held ≡ length left + 1
  length-held = rw behind (length-append left (h ∷ []))

  held-last : held_at held (length left) ≡ h
  held-last = rw behind (get_or_push left h _ (length left) refl)

  last_in : contains r h.page ≡ true
  last_in = ap (λ (g : Held). contains r g.page) (sym held-last) ∙ x.owned (length left) (omega (arith, length-held))

  slot-last : get_or slots h.page 0 ≡ length left
  slot-last = ap (λ (g : Held). get_or slots g.page 0) (sym held-last) ∙ x.indexed (length left) (omega (arith, length-held))

  -- the page's own slot is the last, so no other frame moves
  IsTaken-last : IsTaken slots slots held left h.page h.page
  IsTaken-last = record {
    last = ap (λ (g : Held). g.page) (sym held-last) ∙ ap (λ k. (held_at held k).page) (omega (arith, length-held));
    noted = sym (set-get_or slots h.page 0);
    shorter = sym length-held;
    hole = λ more. absurd (omega (arith, more, slot-last, length-held));
    others = λ k other more. rw behind (sym (get_or_append_left left (h ∷ []) nothing_held k (omega (arith, more, length-held))));
  }

-- ---- the call

module _ (a : Inside) (pages : List Page) (is : pages_of a.resident a.out a.slots.list a.held.items ≡ pages) (kept : IsKept a) where
  pub none_in : length a.held.items ≡ 0 → count (resident pages) ≡ 0
  none_in empty = ap count (shown-resident a pages 0 is) ∙ sym kept.counted ∙ empty

  module _ (left : List Held) (h : Held) (behind : a.held.items ≡ left ++ h ∷ []) where
    in_before : contains a.resident h.page ≡ true
    in_before = last_in a.resident a.slots.list a.held.items left h kept.slotted behind

    pub last-within : h.page < length a.resident
    last-within = lt-length a.resident h.page in_before

    pub last-there : h.page < length pages
    last-there = omega (arith, last-within, shown-length a pages 0 is)

    pub last-is_in : is_in (page_at pages h.page) ≡ true
    last-is_in = shown-in a pages h.page is last-there ∙ in_before

    pub last-frame : page_at pages h.page ≡ In h.frame
    last-frame =
        shown-frame a pages h.page is last-there in_before
        ∙ ap (λ k. In (held_at a.held.items k).frame) (slot-last a.resident a.slots.list a.held.items left h kept.slotted behind)
        ∙ ap (λ (g : Held). In g.frame) (held-last a.resident a.slots.list a.held.items left h kept.slotted behind)

    pub last-taken : IsTaken a.slots.list a.slots.list a.held.items left h.page h.page
    last-taken = IsTaken-last a.resident a.slots.list a.held.items left h kept.slotted behind
