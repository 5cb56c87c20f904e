-- What the fields of a page map say of its pages, before and after one has changed.
use Rattle.std.proofs.Common.{◌≡◌, ◌≢◌, ℕ, ◌+◌, ◌-◌, ◌<◌, ◌≤◌, ◌^◌, Bool, true, false, List, [], ◌∷◌, ◌++◌, length, set, vec_capacity, get_or, refl, sym, ap, ◌∙◌, ◌⊎◌, inl, inr, arith}
use Rattle.std.proofs.lemmas.Bool.{cases_eq, cases_lt}
use Rattle.std.proofs.lemmas.List.{length-set, length-append, length-map, get_or-set_same, get_or-set_other, get_or_append_left, get_or_push, get_or_read, get_or-replicate, length-replicate}
use Rattle.std.proofs.lemmas.List.FromFn.{length-map-range_with_len, get_or-map-range_with_len, fill_by_all}
use Rattle.vm_pages.specs.Pages.{no_pages, contains, insert, remove, count}
use Rattle.vm_pages.proofs.PageSets.{same_pages, lt-length, length-insert, length-remove, length-no_pages, count-no_pages, count-insert, count-remove, contains-no_pages, contains-remove_before, contains-insert_same, contains-insert_other, contains-remove_same, contains-remove_other}
use Rattle.vm_pagemap.specs.declared.page_map.Page.{Page}
use Rattle.vm_pagemap.specs.declared.page_map.Page.TheVariants.{Absent, In, Out}
use Rattle.vm_pagemap.specs.declared.page_map.Held.{Held}
use Rattle.vm_pagemap.specs.declared.page_map.PageMap.TheInside.{Inside}
use Rattle.vm_patches.specs.Patches.{overwritten}
use Rattle.vm_pagemap.specs.PageMap.{absent_pages, page_at, resident, is_in, written}
use Rattle.vm_pagemap.proofs.Resident.{contains-resident}
use Rattle.vm_pagemap.specs.Kept.{nothing_held, held_at, page_of, page_under, pages_of, AreSlotted, IsKept}

-- ---- the pages that the fields show

pub length-pages_of : (r o : List Bool) (slots : List ℕ) (held : List Held) → length (pages_of r o slots held) ≡ length r
length-pages_of r o slots held = length-map-range_with_len (page_under r o slots held) 0 (length r)

pub page_at-pages_of : (r o : List Bool) (slots : List ℕ) (held : List Held) (page : ℕ) → page < length r → page_at (pages_of r o slots held) page ≡ page_under r o slots held page
page_at-pages_of r o slots held page there =
    get_or-map-range_with_len (page_under r o slots held) 0 (length r) page page Absent there (omega arith)

is_in-page_of : (h : Held) (b out : Bool) → is_in (page_of h b out) ≡ b
is_in-page_of h true out = refl
is_in-page_of h false true = refl
is_in-page_of h false false = refl

-- a page is in exactly where the set says so
pub is_in-pages_of : (r o : List Bool) (slots : List ℕ) (held : List Held) (page : ℕ) → page < length r → is_in (page_at (pages_of r o slots held) page) ≡ contains r page
is_in-pages_of r o slots held page there =
    ap is_in (page_at-pages_of r o slots held page there) ∙ is_in-page_of (held_at held (get_or slots page 0)) (contains r page) (contains o page)

-- pages of which one has changed
pub pages_of-changed : (r o r' o' : List Bool) (slots slots' : List ℕ) (held held' : List Held) (page : ℕ) (new : Page) → length r' ≡ length r → page < length r
    → page_under r' o' slots' held' page ≡ new
    → ((q : ℕ) → q ≢ page → page_under r' o' slots' held' q ≡ page_under r o slots held q)
    → pages_of r' o' slots' held' ≡ set (pages_of r o slots held) page new
pages_of-changed r o r' o' slots slots' held held' page new size there here others =
    let old = pages_of r o slots held in
    let len : length (set old page new) ≡ length r' = length-set old page new ∙ length-pages_of r o slots held ∙ sym size in
    sym (fill_by_all (page_under r' o' slots' held') (set old page new) (length r') Absent len
    (λ q below. elim (cases_eq q page) [
      | inl same ↦ rw same (get_or-set_same old page new Absent (omega (arith, length-pages_of r o slots held, there)) ∙ sym here)
      | inr other ↦ get_or-set_other old page q new Absent other ∙ page_at-pages_of r o slots held q (omega (arith, size, below)) ∙ sym (others q other)
    ]))

-- the slot of a page that isn't in doesn't matter
pub page_of-not_in : (g h : Held) (out : Bool) → page_of g false out ≡ page_of h false out
page_of-not_in g h true = refl
page_of-not_in g h false = refl

-- ---- a slot is given

-- one more frame, in a slot that its page finds
pub record IsPut (slots slots' : List ℕ) (held held' : List Held) (h : Held) : Type 0 where
  pub pushed : held' ≡ held ++ h ∷ []
  pub noted : slots' ≡ set slots h.page (length held)

module _ (r : List Bool) (slots slots' : List ℕ) (held held' : List Held) (h : Held) (there : h.page < length r) (x : AreSlotted r slots held) (p : IsPut slots slots' held held' h) where
  slot-put : get_or slots' h.page 0 ≡ length held
  slot-put = rw p.noted (get_or-set_same slots h.page (length held) 0 (omega (arith, there, x.sized)))

  slot-put_other : (q : ℕ) → q ≢ h.page → get_or slots' q 0 ≡ get_or slots q 0
  slot-put_other q other = rw p.noted (get_or-set_other slots h.page q (length held) 0 other)

  held-put : held_at held' (get_or slots' h.page 0) ≡ h
  held-put = rw (slot-put, p.pushed) (get_or_push held h _ (length held) refl)

  held-put_other : (slot : ℕ) → slot < length held → held_at held' slot ≡ held_at held slot
  held-put_other slot within = rw p.pushed (get_or_append_left held (h ∷ []) _ slot within)

  held-last : held_at held' (length held) ≡ h
  held-last = rw p.pushed (get_or_push held h _ (length held) refl)

  -- the pages that were in keep their frames
  kept-put : (q : ℕ) → q ≢ h.page → contains r q ≡ true → held_at held' (get_or slots' q 0) ≡ held_at held (get_or slots q 0)
  kept-put q other was_in = ap (held_at held') (slot-put_other q other) ∙ held-put_other _ (x.within q was_in)

  pub length-put : length held' ≡ length held + 1
  length-put = rw p.pushed (length-append held (h ∷ []))

  -- a slot of the longer list is the new frame's, or was there before
  last_or_before : (slot : ℕ) → slot < length held' → (slot ≡ length held) ⊎ (slot < length held)
  last_or_before slot within = elim (cases_lt slot (length held)) [
    | inl before ↦ inr before
    | inr past ↦ inl (omega (arith, length-put))
  ]

  pub AreSlotted-put : contains r h.page ≡ false → AreSlotted (insert r h.page) slots' held'
  AreSlotted-put absent = record {
    sized = ap length p.noted ∙ length-set slots h.page (length held) ∙ x.sized ∙ sym (length-insert r h.page);
    within = λ q c. elim (cases_eq q h.page) [
      | inl same ↦ rw same (omega (arith, slot-put, length-put))
      | inr other ↦ omega (arith, x.within q (was q other c), slot-put_other q other, length-put)
    ];
    listed = λ q c. elim (cases_eq q h.page) [
      | inl same ↦ rw same (ap (λ (g : Held). g.page) held-put)
      | inr other ↦ ap (λ (g : Held). g.page) (kept-put q other (was q other c)) ∙ x.listed q (was q other c)
    ];
    owned = λ slot within. elim (last_or_before slot within) [
      | inl last ↦ rw (last, held-last) (contains-insert_same r h.page there)
      | inr before ↦ rw (held-put_other slot before)
          (contains-insert_other r h.page _ (λ same. differs slot before same) ∙ x.owned slot before)
    ];
    indexed = λ slot within. elim (last_or_before slot within) [
      | inl last ↦ rw (last, held-last) slot-put
      | inr before ↦ rw (held-put_other slot before) (slot-put_other _ (λ same. differs slot before same) ∙ x.indexed slot before)
    ];
  }
    where
      was : (q : ℕ) → q ≢ h.page → contains (insert r h.page) q ≡ true → contains r q ≡ true
      was q other c = sym (contains-insert_other r h.page q other) ∙ c

      differs : (slot : ℕ) → slot < length held → (held_at held slot).page ≡ h.page → ⊥
      differs slot before same = let no : false ≡ true = sym absent ∙ ap (contains r) (sym same) ∙ x.owned slot before in absurd (cc)

  pub pages_of-put : (o : List Bool) → contains r h.page ≡ false → pages_of (insert r h.page) (remove o h.page) slots' held' ≡ set (pages_of r o slots held) h.page (In h.frame)
  pages_of-put o absent =
      pages_of-changed r o (insert r h.page) (remove o h.page) slots slots' held held' h.page (In h.frame) (length-insert r h.page) there
      (rw (contains-insert_same r h.page there, held-put) refl)
      (λ q other. rw (contains-insert_other r h.page q other, contains-remove_other o h.page q other) (same_page q other (contains r q) refl))
    where
      same_page : (q : ℕ) → q ≢ h.page → (b : Bool) → contains r q ≡ b → page_of (held_at held' (get_or slots' q 0)) b (contains o q) ≡ page_of (held_at held (get_or slots q 0)) b (contains o q)
      same_page q other true was_in = ap (λ g. page_of g true (contains o q)) (kept-put q other was_in)
      same_page q other false was_out = page_of-not_in (held_at held' (get_or slots' q 0)) (held_at held (get_or slots q 0)) (contains o q)

-- ---- a slot is given up

-- one frame less, whose page was in a slot, in which the last frame is then
pub record IsTaken (slots slots' : List ℕ) (held held' : List Held) (page moved : ℕ) : Type 0 where
  pub last : moved ≡ (held_at held (length held - 1)).page
  pub noted : slots' ≡ set slots moved (get_or slots page 0)
  pub shorter : length held' + 1 ≡ length held
  pub hole : get_or slots page 0 + 1 < length held → held_at held' (get_or slots page 0) ≡ held_at held (length held - 1)
  pub others : (slot : ℕ) → slot ≢ get_or slots page 0 → slot + 1 < length held → held_at held' slot ≡ held_at held slot

module _ (r : List Bool) (slots slots' : List ℕ) (held held' : List Held) (page moved : ℕ) (x : AreSlotted r slots held) (t : IsTaken slots slots' held held' page moved) (here : contains r page ≡ true) where
  within_here : get_or slots page 0 < length held
  within_here = x.within page here

  moved_in : contains r moved ≡ true
  moved_in = rw t.last (x.owned (length held - 1) (omega (arith, within_here)))

  slot-moved_before : get_or slots moved 0 ≡ length held - 1
  slot-moved_before = rw t.last (x.indexed (length held - 1) (omega (arith, within_here)))

  slot-moved : get_or slots' moved 0 ≡ get_or slots page 0
  slot-moved = rw t.noted (get_or-set_same slots moved (get_or slots page 0) 0 (omega (arith, lt-length r moved moved_in, x.sized)))

  slot-other : (q : ℕ) → q ≢ moved → get_or slots' q 0 ≡ get_or slots q 0
  slot-other q other = rw t.noted (get_or-set_other slots moved q (get_or slots page 0) 0 other)

  -- pages in one slot are one page
  same_slot : (p q : ℕ) → contains r p ≡ true → contains r q ≡ true → get_or slots p 0 ≡ get_or slots q 0 → p ≡ q
  same_slot p q p_in q_in same = sym (x.listed p p_in) ∙ ap (λ slot. (held_at held slot).page) same ∙ x.listed q q_in

  -- the other pages that are in keep their frames
  kept-taken : (q : ℕ) → q ≢ page → contains r q ≡ true → (get_or slots' q 0 < length held') × (held_at held' (get_or slots' q 0) ≡ held_at held (get_or slots q 0))
  kept-taken q other was_in = elim (cases_eq q moved) [
    | inl same ↦
        let q_slot : get_or slots q 0 ≡ length held - 1 = ap (λ m. get_or slots m 0) same ∙ slot-moved_before in
        let now : get_or slots' q 0 ≡ get_or slots page 0 = ap (λ m. get_or slots' m 0) same ∙ slot-moved in
        let apart : get_or slots page 0 ≢ length held - 1 = λ e. other (same_slot q page was_in here (q_slot ∙ sym e)) in
        (omega (arith, now, within_here, apart, t.shorter), ap (held_at held') now ∙ t.hole (omega (arith, within_here, apart)) ∙ ap (held_at held) (sym q_slot))
    | inr elsewhere ↦
        let now = slot-other q elsewhere in
        let not_here : get_or slots q 0 ≢ get_or slots page 0 = λ e. other (same_slot q page was_in here e) in
        let not_last : get_or slots q 0 ≢ length held - 1 = λ e. elsewhere (same_slot q moved was_in moved_in (e ∙ sym slot-moved_before)) in
        let inside = x.within q was_in in
        (omega (arith, now, inside, not_last, t.shorter), ap (held_at held') now ∙ t.others _ not_here (omega (arith, inside, not_last)))
  ]

  was_kept : (q : ℕ) → contains (remove r page) q ≡ true → (q ≢ page) × (contains r q ≡ true)
  was_kept q c =
      let other : q ≢ page = λ same. let no : false ≡ true = sym (contains-remove_same r page) ∙ ap (contains (remove r page)) (sym same) ∙ c in absurd (cc) in
      (other, sym (contains-remove_other r page q other) ∙ c)

  -- what a slot of the shorter list has is in, and finds it
  record HasOwner (slot : ℕ) : Type 0 where
    pub owned : contains (remove r page) (held_at held' slot).page ≡ true
    pub indexed : get_or slots' (held_at held' slot).page 0 ≡ slot

  has_owner : (slot : ℕ) → slot < length held' → HasOwner slot
  has_owner slot within = elim (cases_eq slot (get_or slots page 0)) [
    | inl same ↦
        let is : (held_at held' slot).page ≡ moved = ap (λ s. (held_at held' s).page) same ∙ ap (λ (g : Held). g.page) (t.hole (omega (arith, within, same, t.shorter))) ∙ sym t.last in
        let other : moved ≢ page = λ e. let no : length held - 1 ≡ slot = sym slot-moved_before ∙ ap (λ m. get_or slots m 0) e ∙ sym same in omega (arith, within, t.shorter, no) in
        record {
          owned = rw is (contains-remove_other r page moved other ∙ moved_in);
          indexed = rw is (slot-moved ∙ sym same);
        }
    | inr apart ↦
        let is = t.others slot apart (omega (arith, within, t.shorter)) in
        let before : slot < length held = omega (arith, within, t.shorter) in
        let at = x.indexed slot before in
        let other : (held_at held slot).page ≢ page = λ e. apart (sym at ∙ ap (λ m. get_or slots m 0) e) in
        let elsewhere : (held_at held slot).page ≢ moved = λ e. let no : slot ≡ length held - 1 = sym at ∙ ap (λ m. get_or slots m 0) e ∙ slot-moved_before in omega (arith, within, t.shorter, no) in
        record {
          owned = rw is (contains-remove_other r page _ other ∙ x.owned slot before);
          indexed = rw is (slot-other _ elsewhere ∙ at);
        }
  ]

  pub AreSlotted-taken : AreSlotted (remove r page) slots' held'
  AreSlotted-taken = record {
    sized = ap length t.noted ∙ length-set slots moved (get_or slots page 0) ∙ x.sized ∙ sym (length-remove r page);
    within = λ q c. let was = was_kept q c in (kept-taken q was.0 was.1).0;
    listed = λ q c. let was = was_kept q c in ap (λ (g : Held). g.page) (kept-taken q was.0 was.1).1 ∙ x.listed q was.1;
    owned = λ slot within. (has_owner slot within).owned;
    indexed = λ slot within. (has_owner slot within).indexed;
  }

  pub pages_of-taken : (o : List Bool) → contains o page ≡ false → pages_of (remove r page) o slots' held' ≡ set (pages_of r o slots held) page Absent
  pages_of-taken o not_out =
      pages_of-changed r o (remove r page) o slots slots' held held' page Absent (length-remove r page) (lt-length r page here)
      (rw (contains-remove_same r page, not_out) refl)
      (λ q other. rw (contains-remove_other r page q other) (same_page q other (contains r q) refl))
    where
      same_page : (q : ℕ) → q ≢ page → (b : Bool) → contains r q ≡ b → page_of (held_at held' (get_or slots' q 0)) b (contains o q) ≡ page_of (held_at held (get_or slots q 0)) b (contains o q)
      same_page q other true was_in = ap (λ g. page_of g true (contains o q)) (kept-taken q other was_in).1
      same_page q other false was_out = page_of-not_in (held_at held' (get_or slots' q 0)) (held_at held (get_or slots q 0)) (contains o q)

-- ---- a page without a frame is marked

module _ (r o : List Bool) (slots : List ℕ) (held : List Held) (page : ℕ) (there : page < length r) (absent : contains r page ≡ false) where
  pub pages_of-mark_out : length o ≡ length r → pages_of r (insert o page) slots held ≡ set (pages_of r o slots held) page Out
  pages_of-mark_out size =
      pages_of-changed r o r (insert o page) slots slots held held page Out refl there
      (rw (absent, contains-insert_same o page (omega (arith, there, size))) refl)
      (λ q other. rw (contains-insert_other o page q other) refl)

  pub pages_of-mark_absent : pages_of r (remove o page) slots held ≡ set (pages_of r o slots held) page Absent
  pages_of-mark_absent =
      pages_of-changed r o r (remove o page) slots slots held held page Absent refl there
      (rw (absent, contains-remove_same o page) refl)
      (λ q other. rw (contains-remove_other o page q other) refl)

-- a page that isn't in may be marked, and a mark may go
pub apart-insert : (r o : List Bool) (page : ℕ) → ((q : ℕ) → contains r q ≡ true → contains o q ≡ false) → contains r page ≡ false → (q : ℕ) → contains r q ≡ true → contains (insert o page) q ≡ false
apart-insert r o page apart absent q here =
    contains-insert_other o page q (λ same. let no : false ≡ true = sym absent ∙ ap (contains r) (sym same) ∙ here in absurd (cc)) ∙ apart q here

pub apart-remove : (r o : List Bool) (page : ℕ) → ((q : ℕ) → contains r q ≡ true → contains o q ≡ false) → (q : ℕ) → contains r q ≡ true → contains (remove o page) q ≡ false
apart-remove r o page apart q here =
    elim (cases_eq q page) [
      | inl same ↦ rw same (contains-remove_same o page)
      | inr other ↦ contains-remove_other o page q other ∙ apart q here
    ]

-- ---- bytes are written

module _ (r : List Bool) (slots : List ℕ) (held : List Held) (page : ℕ) (new : Held) (x : AreSlotted r slots held) (here : contains r page ≡ true) (same : new.page ≡ page) where
  abbrev slot : ℕ
  slot = get_or slots page 0

  held-written : held_at (set held slot new) slot ≡ new
  held-written = get_or-set_same held slot new _ (x.within page here)

  held-unwritten : (k : ℕ) → k ≢ slot → held_at (set held slot new) k ≡ held_at held k
  held-unwritten k other = get_or-set_other held slot k new _ other

  -- each slot keeps its page
  owner-written : (k : ℕ) → (held_at (set held slot new) k).page ≡ (held_at held k).page
  owner-written k = elim (cases_eq k slot) [
    | inl is ↦ rw is (ap (λ (g : Held). g.page) held-written ∙ same ∙ sym (x.listed page here))
    | inr other ↦ ap (λ (g : Held). g.page) (held-unwritten k other)
  ]

  pub AreSlotted-written : AreSlotted r slots (set held slot new)
  AreSlotted-written = record {
    sized = x.sized;
    within = λ q c. rw (length-set held slot new) (x.within q c);
    listed = λ q c. owner-written _ ∙ x.listed q c;
    owned = λ k within. rw (owner-written k) (x.owned k (rw (length-set held slot new) at within));
    indexed = λ k within. rw (owner-written k) (x.indexed k (rw (length-set held slot new) at within));
  }

  pub pages_of-written : (o : List Bool) → pages_of r o slots (set held slot new) ≡ set (pages_of r o slots held) page (In new.frame)
  pages_of-written o =
      pages_of-changed r o r o slots slots held (set held slot new) page (In new.frame) refl (lt-length r page here)
      (rw (here, held-written) refl)
      (λ q other. same_page q other (contains r q) refl)
    where
      same_page : (q : ℕ) → q ≢ page → (b : Bool) → contains r q ≡ b → page_of (held_at (set held slot new) (get_or slots q 0)) b (contains o q) ≡ page_of (held_at held (get_or slots q 0)) b (contains o q)
      same_page q other true was_in =
          ap (λ g. page_of g true (contains o q)) (held-unwritten _ (λ e. other (sym (x.listed q was_in) ∙ ap (λ k. (held_at held k).page) e ∙ x.listed page here)))
      same_page q other false was_out = page_of-not_in (held_at (set held slot new) (get_or slots q 0)) (held_at held (get_or slots q 0)) (contains o q)

-- ---- a page as a caller sees it

module _ (m : Inside) (pages : List Page) (page : ℕ) (is : pages_of m.resident m.out m.slots.list m.held.items ≡ pages) where
  pub shown-length : length m.resident ≡ length pages
  shown-length = sym (length-pages_of m.resident m.out m.slots.list m.held.items) ∙ ap length is

  module _ (there : page < length pages) where
    pub shown-within : page < length m.resident
    shown-within = omega (arith, shown-length, there)

    pub shown-page : page_at pages page ≡ page_under m.resident m.out m.slots.list m.held.items page
    shown-page = ap (λ l. page_at l page) (sym is) ∙ page_at-pages_of m.resident m.out m.slots.list m.held.items page shown-within

    pub shown-in : is_in (page_at pages page) ≡ contains m.resident page
    shown-in = ap (λ l. is_in (page_at l page)) (sym is) ∙ is_in-pages_of m.resident m.out m.slots.list m.held.items page shown-within

    pub shown-frame : contains m.resident page ≡ true → page_at pages page ≡ In (held_at m.held.items (get_or m.slots.list page 0)).frame
    shown-frame here = shown-page ∙ ap (λ b. page_of (held_at m.held.items (get_or m.slots.list page 0)) b (contains m.out page)) here

    pub shown-not_in : (out : Bool) → contains m.resident page ≡ false → contains m.out page ≡ out → page_at pages page ≡ page_of nothing_held false out
    shown-not_in out absent marked =
        shown-page
        ∙ ap (λ b. page_of (held_at m.held.items (get_or m.slots.list page 0)) b (contains m.out page)) absent
        ∙ ap (page_of (held_at m.held.items (get_or m.slots.list page 0)) false) marked
        ∙ page_of-not_in (held_at m.held.items (get_or m.slots.list page 0)) nothing_held out

  -- the set of the pages that are in
  pub shown-resident : resident pages ≡ m.resident
  shown-resident =
      same_pages (resident pages) m.resident (length-map pages is_in ∙ sym shown-length)
      (λ q below.
      let inside : q < length pages = omega (arith, below, length-map pages is_in) in
      contains-resident pages q ∙ ap (λ l. is_in (page_at l q)) (sym is) ∙ is_in-pages_of m.resident m.out m.slots.list m.held.items q (omega (arith, shown-length, inside)))

-- ---- a new guest's pages

pub pages_of-none : (r o : List Bool) (slots : List ℕ) (held : List Held) (size : ℕ) → r ≡ no_pages size → o ≡ no_pages size → pages_of r o slots held ≡ absent_pages size
pages_of-none r o slots held size none not_out =
    let len : length r ≡ size = ap length none ∙ length-no_pages size in
    sym (fill_by_all (page_under r o slots held) (absent_pages size) (length r) Absent (length-replicate size Absent ∙ sym len)
    (λ q below.
    get_or-replicate size q Absent Absent (omega (arith, below, len))
    ∙ sym (ap (λ b. page_of (held_at held (get_or slots q 0)) b (contains o q)) (ap (λ l. contains l q) none ∙ contains-no_pages size q)
    ∙ ap (page_of (held_at held (get_or slots q 0)) false) (ap (λ l. contains l q) not_out ∙ contains-no_pages size q))))

no_page_in : (r : List Bool) (size q : ℕ) → r ≡ no_pages size → contains r q ≡ true → ⊥
no_page_in r size q none here =
    let no : false ≡ true = sym (ap (λ l. contains l q) none ∙ contains-no_pages size q) ∙ here in
    absurd (cc)

pub IsKept-none : (m : Inside) (size : ℕ) → m.resident ≡ no_pages size → m.out ≡ no_pages size → length m.slots.list ≡ size → m.held.items ≡ [] → size < 2 ^ 32 → size ≤ vec_capacity m.held → IsKept m
IsKept-none m size none not_out sized empty fits room =
    let len : length m.resident ≡ size = ap length none ∙ length-no_pages size in
    let no_slot : length m.held.items ≡ 0 = ap length empty in
    record {
      slotted = record {
        sized = sized ∙ sym len;
        within = λ q here. absurd (no_page_in m.resident size q none here);
        listed = λ q here. absurd (no_page_in m.resident size q none here);
        owned = λ slot within. absurd (omega (arith, within, no_slot));
        indexed = λ slot within. absurd (omega (arith, within, no_slot));
      };
      counted = no_slot ∙ sym (ap count none ∙ count-no_pages size);
      apart = λ q here. absurd (no_page_in m.resident size q none here);
      same_size = ap length not_out ∙ length-no_pages size ∙ sym len;
      fits = omega (arith, len, fits);
      room = omega (arith, len, room);
    }

-- ---- the calls

module _ (a : Inside) (pages : List Page) (is : pages_of a.resident a.out a.slots.list a.held.items ≡ pages) (kept : IsKept a) where
  module _ (b : Inside) (h : Held) (there : h.page < length pages) (not_in : is_in (page_at pages h.page) ≡ false) (in_after : b.resident ≡ insert a.resident h.page) (out_after : b.out ≡ remove a.out h.page)
      (put : IsPut a.slots.list b.slots.list a.held.items b.held.items h) where
    absent_before : contains a.resident h.page ≡ false
    absent_before = sym (shown-in a pages h.page is there) ∙ not_in

    within_before : h.page < length a.resident
    within_before = shown-within a pages h.page is there

    pub shown_put : pages_of b.resident b.out b.slots.list b.held.items ≡ set pages h.page (In h.frame)
    shown_put =
        ap (λ r. pages_of r b.out b.slots.list b.held.items) in_after
        ∙ ap (λ o. pages_of (insert a.resident h.page) o b.slots.list b.held.items) out_after
        ∙ pages_of-put a.resident a.slots.list b.slots.list a.held.items b.held.items h within_before kept.slotted put a.out absent_before
        ∙ ap (λ l. set l h.page (In h.frame)) is

    pub kept_put : vec_capacity b.held ≡ vec_capacity a.held → IsKept b
    kept_put room =
        let len : length b.resident ≡ length a.resident = ap length in_after ∙ length-insert a.resident h.page in
        let longer : length b.held.items ≡ length a.held.items + 1 = length-put a.resident a.slots.list b.slots.list a.held.items b.held.items h within_before kept.slotted put in
        record {
          slotted = rw in_after (AreSlotted-put a.resident a.slots.list b.slots.list a.held.items b.held.items h within_before kept.slotted put absent_before);
          counted = longer ∙ ap (λ n. n + 1) kept.counted ∙ sym (ap count in_after ∙ count-insert a.resident h.page within_before absent_before);
          apart = λ q here. apart_after q (sym (ap (λ l. contains l q) in_after) ∙ here);
          same_size = ap length out_after ∙ length-remove a.out h.page ∙ kept.same_size ∙ sym len;
          fits = omega (arith, len, kept.fits);
          room = omega (arith, len, kept.room, room);
        }
      where
        apart_after : (q : ℕ) → contains (insert a.resident h.page) q ≡ true → contains b.out q ≡ false
        apart_after q here =
            ap (λ l. contains l q) out_after
            ∙ elim (cases_eq q h.page) [
              | inl same ↦ rw same (contains-remove_same a.out h.page)
              | inr other ↦ contains-remove_other a.out h.page q other ∙ kept.apart q (sym (contains-insert_other a.resident h.page q other) ∙ here)
            ]

  module _ (page : ℕ) (there : page < length pages) (page_is_in : is_in (page_at pages page) ≡ true) where
    pub in_before : contains a.resident page ≡ true
    in_before = sym (shown-in a pages page is there) ∙ page_is_in

    pub slot-reached : page < length a.slots.list
    slot-reached = omega (arith, lt-length a.resident page in_before, kept.slotted.sized)

    pub slot-within : get_or a.slots.list page 0 < length a.held.items
    slot-within = kept.slotted.within page in_before

    pub shown-held : page_at pages page ≡ In (held_at a.held.items (get_or a.slots.list page 0)).frame
    shown-held = shown-frame a pages page is there in_before

    module _ (b : Inside) (moved : ℕ) (in_after : b.resident ≡ remove a.resident page) (out_after : b.out ≡ a.out) (taken : IsTaken a.slots.list b.slots.list a.held.items b.held.items page moved) where
      pub shown_taken : pages_of b.resident b.out b.slots.list b.held.items ≡ set pages page Absent
      shown_taken =
          ap (λ r. pages_of r b.out b.slots.list b.held.items) in_after
          ∙ ap (λ o. pages_of (remove a.resident page) o b.slots.list b.held.items) out_after
          ∙ pages_of-taken a.resident a.slots.list b.slots.list a.held.items b.held.items page moved kept.slotted taken in_before a.out (kept.apart page in_before)
          ∙ ap (λ l. set l page Absent) is

      pub kept_taken : vec_capacity b.held ≡ vec_capacity a.held → IsKept b
      kept_taken room =
          let len : length b.resident ≡ length a.resident = ap length in_after ∙ length-remove a.resident page in
          record {
            slotted = rw in_after (AreSlotted-taken a.resident a.slots.list b.slots.list a.held.items b.held.items page moved kept.slotted taken in_before);
            counted = omega (arith, taken.shorter, kept.counted, ap count in_after, count-remove a.resident page in_before);
            apart = λ q here. ap (λ l. contains l q) out_after ∙ kept.apart q (contains-remove_before a.resident page q (sym (ap (λ l. contains l q) in_after) ∙ here));
            same_size = ap length out_after ∙ kept.same_size ∙ sym len;
            fits = omega (arith, len, kept.fits);
            room = omega (arith, len, kept.room, room);
          }

    module _ (slot : ℕ) (old new : Held) (offset : ℕ) (bytes : List ℕ) (slot_is : slot ≡ get_or a.slots.list page 0) (old_read : old ≡ get_or a.held.items slot old)
        (same_page : new.page ≡ old.page) (new_frame : new.frame ≡ record old.frame { bytes = overwritten old.frame.bytes offset bytes }) where
      old_is : old ≡ held_at a.held.items (get_or a.slots.list page 0)
      old_is = get_or_read a.held.items slot old (omega (arith, slot_is, slot-within)) old_read nothing_held ∙ ap (held_at a.held.items) slot_is

      new_page : new.page ≡ page
      new_page = same_page ∙ ap (λ (g : Held). g.page) old_is ∙ kept.slotted.listed page in_before

      pub shown_written : pages_of a.resident a.out a.slots.list (set a.held.items slot new) ≡ set pages page (written (page_at pages page) offset bytes)
      shown_written =
          ap (λ k. pages_of a.resident a.out a.slots.list (set a.held.items k new)) slot_is
          ∙ pages_of-written a.resident a.slots.list a.held.items page new kept.slotted in_before new_page a.out
          ∙ ap (λ l. set l page (In new.frame)) is
          ∙ ap (set pages page)
          (ap In (new_frame ∙ ap (λ (g : Held). record g.frame { bytes = overwritten g.frame.bytes offset bytes }) old_is)
          ∙ sym (ap (λ p. written p offset bytes) shown-held))

      pub slotted_written : AreSlotted a.resident a.slots.list (set a.held.items slot new)
      slotted_written = rw slot_is (AreSlotted-written a.resident a.slots.list a.held.items page new kept.slotted in_before new_page)

-- the page of the last frame
pub moved-reached : (r : List Bool) (slots : List ℕ) (held : List Held) (moved : ℕ) → AreSlotted r slots held → moved ≡ (held_at held (length held - 1)).page → 0 < length held → moved < length slots
moved-reached r slots held moved x last some =
    rw last (omega (arith, lt-length r _ (x.owned (length held - 1) (omega arith)), x.sized))

-- a frame that was taken from a slot, by what the slot was read as
pub IsTaken-of : (slots slots' : List ℕ) (held held' : List Held) (page moved slot : ℕ) → slot ≡ get_or slots page 0 → moved ≡ (held_at held (length held - 1)).page → slots' ≡ set slots moved slot → length held' + 1 ≡ length held
    → ((d : Held) → slot + 1 < length held → get_or held' slot d ≡ get_or held (length held - 1) d)
    → ((k : ℕ) (d : Held) → k ≢ slot → k + 1 < length held → get_or held' k d ≡ get_or held k d)
    → IsTaken slots slots' held held' page moved
IsTaken-of slots slots' held held' page moved slot is last noted shorter hole others = record {
  last = last;
  noted = noted ∙ ap (set slots moved) is;
  shorter = shorter;
  hole = λ more. ap (held_at held') (sym is) ∙ hole nothing_held (omega (arith, is, more));
  others = λ k other more. others k nothing_held (λ e. other (e ∙ is)) more;
}
