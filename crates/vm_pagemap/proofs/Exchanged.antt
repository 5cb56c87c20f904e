-- A page that gets the frame of another one, in its slot.
use Rattle.std.proofs.Common.{◌≡◌, ◌≢◌, ℕ, ◌<◌, Bool, true, false, List, length, set, get_or, vec_capacity, refl, sym, ap, ◌∙◌, inl, inr, arith}
use Rattle.std.proofs.lemmas.Bool.{cases_eq}
use Rattle.std.proofs.lemmas.List.{length-set, get_or-set_same, get_or-set_other}
use Rattle.vm_pages.specs.Pages.{contains, insert, remove, count}
use Rattle.vm_pages.proofs.PageSets.{lt-length, length-insert, length-remove, count-insert, count-remove, contains-insert_same, contains-insert_other, contains-remove_same, contains-remove_other}
use Rattle.vm_pagemap.specs.declared.page_map.Page.{Page}
use Rattle.vm_pagemap.specs.declared.page_map.Page.TheVariants.{In, Out}
use Rattle.vm_pagemap.specs.declared.page_map.Held.{Held}
use Rattle.vm_pagemap.specs.declared.page_map.PageMap.TheInside.{Inside}
use Rattle.vm_pagemap.specs.PageMap.{page_at, is_in}
use Rattle.vm_pagemap.specs.Kept.{held_at, page_of, pages_of, AreSlotted, IsKept}
use Rattle.vm_pagemap.proofs.Kept.{pages_of-changed, page_of-not_in, shown-in, shown-within}

module _ (r : List Bool) (slots slots' : List ℕ) (held : List Held) (page victim : ℕ) (new : Held) (x : AreSlotted r slots held) (h : slots' ≡ set slots page (get_or slots victim 0))
    (here : contains r victim ≡ true) (absent : contains r page ≡ false) (there : page < length r) (same : new.page ≡ page) where
  abbrev slot : ℕ
  slot = get_or slots victim 0

  abbrev after : List Held
  after = set held slot new

  abbrev left : List Bool
  left = remove r victim

  slot-page : get_or slots' page 0 ≡ slot
  slot-page = rw h (get_or-set_same slots page slot 0 (omega (arith, there, x.sized)))

  slot-other : (q : ℕ) → q ≢ page → get_or slots' q 0 ≡ get_or slots q 0
  slot-other q other = rw h (get_or-set_other slots page q slot 0 other)

  held-new : held_at after slot ≡ new
  held-new = get_or-set_same held slot new _ (x.within victim here)

  held-other : (k : ℕ) → k ≢ slot → held_at after k ≡ held_at held k
  held-other k other = get_or-set_other held slot k new _ other

  -- another page that is in has another slot
  own_slot : (q : ℕ) → q ≢ victim → contains r q ≡ true → get_or slots q 0 ≢ slot
  own_slot q other was_in e = other (sym (x.listed q was_in) ∙ ap (λ k. (held_at held k).page) e ∙ x.listed victim here)

  was_left : (q : ℕ) → contains left q ≡ true → (q ≢ victim) × (contains r q ≡ true)
  was_left q c =
      let other : q ≢ victim = λ is. let no : false ≡ true = sym (contains-remove_same r victim) ∙ ap (contains left) (sym is) ∙ c in absurd (cc) in
      (other, sym (contains-remove_other r victim q other) ∙ c)

  -- the other pages that are in keep their frames
  kept-frame : (q : ℕ) → q ≢ page → contains left q ≡ true → held_at after (get_or slots' q 0) ≡ held_at held (get_or slots q 0)
  kept-frame q other c = let was = was_left q c in ap (held_at after) (slot-other q other) ∙ held-other _ (own_slot q was.0 was.1)

  was_in : (q : ℕ) → q ≢ page → contains (insert left page) q ≡ true → contains left q ≡ true
  was_in q other c = sym (contains-insert_other left page q other) ∙ c

  within_left : page < length left
  within_left = omega (arith, there, length-remove r victim)

  -- what another slot has is in, is neither of the two pages, and finds its slot
  owner-other : (k : ℕ) → k < length held → k ≢ slot → ((held_at held k).page ≢ page) × (contains left (held_at held k).page ≡ true)
  owner-other k within other =
      let owned = x.owned k within in
      let not_page : (held_at held k).page ≢ page = λ e. let no : false ≡ true = sym absent ∙ ap (contains r) (sym e) ∙ owned in absurd (cc) in
      let not_victim : (held_at held k).page ≢ victim = λ e. other (sym (x.indexed k within) ∙ ap (λ q. get_or slots q 0) e) in
      (not_page, contains-remove_other r victim _ not_victim ∙ owned)

  pub AreSlotted-exchanged : AreSlotted (insert left page) slots' after
  AreSlotted-exchanged = record {
    sized = ap length h ∙ length-set slots page slot ∙ x.sized ∙ sym (length-insert left page ∙ length-remove r victim);
    within = λ q c. elim (cases_eq q page) [
      | inl is ↦ rw (is, length-set held slot new, slot-page) (x.within victim here)
      | inr other ↦ rw (length-set held slot new, slot-other q other) (x.within q (was_left q (was_in q other c)).1)
    ];
    listed = λ q c. elim (cases_eq q page) [
      | inl is ↦ rw (is, slot-page) (ap (λ (g : Held). g.page) held-new ∙ same)
      | inr other ↦ ap (λ (g : Held). g.page) (kept-frame q other (was_in q other c)) ∙ x.listed q (was_left q (was_in q other c)).1
    ];
    owned = λ k within. elim (cases_eq k slot) [
      | inl is ↦ rw (is, held-new, same) (contains-insert_same left page within_left)
      | inr other ↦
          let owner = owner-other k (rw (length-set held slot new) at within) other in
          rw (held-other k other) (contains-insert_other left page _ owner.0 ∙ owner.1)
    ];
    indexed = λ k within. elim (cases_eq k slot) [
      | inl is ↦ rw (is, held-new, same) slot-page
      | inr other ↦
          let before = rw (length-set held slot new) at within in
          rw (held-other k other) (slot-other _ (owner-other k before other).0 ∙ x.indexed k before)
    ];
  }

  module _ (o : List Bool) (size : length o ≡ length r) where
    marked : pages_of left (insert o victim) slots held ≡ set (pages_of r o slots held) victim Out
    marked =
        pages_of-changed r o left (insert o victim) slots slots held held victim Out (length-remove r victim) (lt-length r victim here)
        (rw (contains-remove_same r victim, contains-insert_same o victim (omega (arith, size, lt-length r victim here))) refl)
        (λ q other. rw (contains-remove_other r victim q other, contains-insert_other o victim q other) refl)

    pub pages_of-exchanged : pages_of (insert left page) (remove (insert o victim) page) slots' after ≡ set (set (pages_of r o slots held) victim Out) page (In new.frame)
    pages_of-exchanged =
        pages_of-changed left (insert o victim) (insert left page) (remove (insert o victim) page) slots slots' held after page (In new.frame) (length-insert left page) within_left
        (rw (contains-insert_same left page within_left, slot-page, held-new) refl)
        (λ q other. rw (contains-insert_other left page q other, contains-remove_other (insert o victim) page q other) (same_page q other (contains left q) refl))
        ∙ ap (λ pages. set pages page (In new.frame)) marked
      where
        same_page : (q : ℕ) → q ≢ page → (b : Bool) → contains left q ≡ b
            → page_of (held_at after (get_or slots' q 0)) b (contains (insert o victim) q) ≡ page_of (held_at held (get_or slots q 0)) b (contains (insert o victim) q)
        same_page q other true c = ap (λ g. page_of g true (contains (insert o victim) q)) (kept-frame q other c)
        same_page q other false c = page_of-not_in (held_at after (get_or slots' q 0)) (held_at held (get_or slots q 0)) (contains (insert o victim) q)

-- ---- the call

module _ (a : Inside) (pages : List Page) (is : pages_of a.resident a.out a.slots.list a.held.items ≡ pages) (kept : IsKept a)
    (b : Inside) (page victim at : ℕ) (new : Held) (there : page < length pages) (not_in : is_in (page_at pages page) ≡ false)
    (victim_there : victim < length pages) (victim_in : is_in (page_at pages victim) ≡ true) (same : new.page ≡ page) (at_is : at ≡ get_or a.slots.list victim 0)
    (in_after : b.resident ≡ insert (remove a.resident victim) page) (out_after : b.out ≡ remove (insert a.out victim) page)
    (h : b.slots.list ≡ set a.slots.list page (get_or a.slots.list victim 0)) (held_after : b.held.items ≡ set a.held.items at new) where
  here_before : contains a.resident victim ≡ true
  here_before = sym (shown-in a pages victim is victim_there) ∙ victim_in

  absent_before : contains a.resident page ≡ false
  absent_before = sym (shown-in a pages page is there) ∙ not_in

  held_is : b.held.items ≡ set a.held.items (get_or a.slots.list victim 0) new
  held_is = held_after ∙ ap (λ k. set a.held.items k new) at_is

  pub shown_exchanged : pages_of b.resident b.out b.slots.list b.held.items ≡ set (set pages victim Out) page (In new.frame)
  shown_exchanged =
      ap (λ r. pages_of r b.out b.slots.list b.held.items) in_after
      ∙ ap (λ o. pages_of (insert (remove a.resident victim) page) o b.slots.list b.held.items) out_after
      ∙ ap (pages_of (insert (remove a.resident victim) page) (remove (insert a.out victim) page) b.slots.list) held_is
      ∙ pages_of-exchanged a.resident a.slots.list b.slots.list a.held.items page victim new kept.slotted h here_before absent_before (shown-within a pages page is there) same a.out kept.same_size
      ∙ ap (λ l. set (set l victim Out) page (In new.frame)) is

  pub kept_exchanged : vec_capacity b.held ≡ vec_capacity a.held → IsKept b
  kept_exchanged room =
      record {
        slotted = rw (in_after, held_is) (AreSlotted-exchanged a.resident a.slots.list b.slots.list a.held.items page victim new kept.slotted h here_before absent_before within same);
        counted = ap length held_is ∙ length-set a.held.items (get_or a.slots.list victim 0) new ∙ kept.counted ∙ sym counted;
        apart = λ q here. apart q (sym (ap (λ l. contains l q) in_after) ∙ here);
        same_size = omega (arith, ap length out_after, length-remove (insert a.out victim) page, length-insert a.out victim, kept.same_size, len);
        fits = omega (arith, len, kept.fits);
        room = omega (arith, len, kept.room, room);
      }
    where
      within : page < length a.resident
      within = shown-within a pages page is there

      len : length b.resident ≡ length a.resident
      len = ap length in_after ∙ length-insert (remove a.resident victim) page ∙ length-remove a.resident victim

      differ : page ≢ victim
      differ e = let no : false ≡ true = sym absent_before ∙ ap (contains a.resident) e ∙ here_before in absurd (cc)

      left_absent : contains (remove a.resident victim) page ≡ false
      left_absent = contains-remove_other a.resident victim page differ ∙ absent_before

      counted : count b.resident ≡ count a.resident
      counted =
          omega (arith, ap count in_after, count-insert (remove a.resident victim) page (omega (arith, within, length-remove a.resident victim)) left_absent, count-remove a.resident victim here_before)

      apart : (q : ℕ) → contains (insert (remove a.resident victim) page) q ≡ true → contains b.out q ≡ false
      apart q here =
          ap (λ l. contains l q) out_after
          ∙ elim (cases_eq q page) [
            | inl e ↦ rw e (contains-remove_same (insert a.out victim) page)
            | inr other ↦
                let left : contains (remove a.resident victim) q ≡ true = sym (contains-insert_other (remove a.resident victim) page q other) ∙ here in
                let elsewhere : q ≢ victim = λ e. let no : false ≡ true = sym (contains-remove_same a.resident victim) ∙ ap (contains (remove a.resident victim)) (sym e) ∙ left in absurd (cc) in
                contains-remove_other (insert a.out victim) page q other
                ∙ contains-insert_other a.out victim q elsewhere
                ∙ kept.apart q (sym (contains-remove_other a.resident victim q elsewhere) ∙ left)
          ]
