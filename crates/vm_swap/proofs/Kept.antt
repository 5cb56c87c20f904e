-- What the invariant of a table says of a page whose slot the index finds, or doesn't.
use Rattle.std.proofs.Common.{◌+◌, ◌++◌, [], ◌∷◌, set, ◌==◌, cond, ◌≡◌, ℕ, ◌<◌, ◌-◌, List, length, get_or, Option, Some, None, slice_get, refl, sym, ap, ◌∙◌, inl, inr, arith}
use Rattle.std.proofs.lemmas.Bool.{cases_lt}
use Rattle.std.proofs.lemmas.Option.{none-some, slice_get_within, slice_get_read, slice_get-map}
use Rattle.std.proofs.lemmas.List.{length-map, length-set, length-append, map-set, map-append, get_or_past}
use Rattle.std.specs.List.{swap_remove}
use Rattle.std.specs.Option.{option_map, option_and_then, is_some}
use Rattle.std.specs.Ordering.{nat_cmp}
use Rattle.std.specs.FinMap.{get, insert, remove, empty, len, from_entries, len-empty}
use Rattle.vm_swap.specs.declared.table.Slot.{Slot}
use Rattle.vm_swap.specs.Index.{no_slots}
use Rattle.vm_swap.specs.Slots.{IsKept, entries_of, pages_of}
use Rattle.vm_swap.proofs.Marks.{none_in, length-no_slots}
use Rattle.vm_swap.proofs.Bounded.{KeysBelow, KeysBelow-insert, len-KeysBelow}
use Rattle.vm_swap.proofs.Slots.{get-look_up, entry_at, unindexed, Indexes-push, from_entries-push, len-put, pages_of-set, from_entries-set, len-write, map-swap_remove, Forgets, Indexes-forgets, from_entries-forgets, len-forget, get_or-set, HandsOver, Indexes-hands_over, from_entries-hands_over, len-hands_over}

-- the page is in the slot, and the map has its value
pub record Found {V : Type 0} (es : List (ℕ × V)) (index : List (Option ℕ)) (page slot : ℕ) : Type 0 where
  pub within : slot < length es
  pub noted : page < length index
  pub value : V
  pub entry : slice_get es slot ≡ Some (page, value)
  pub has : get (from_entries {R = nat_cmp} es) page ≡ Some value

-- a page whose slot the index finds
pub inside_index : (index : List (Option ℕ)) (page slot : ℕ) → get_or index page None ≡ Some slot → page < length index
inside_index index page slot at = elim (cases_lt page (length index)) [
  | inl within ↦ within
  | inr past ↦ absurd (none-some slot (sym (get_or_past index page None past) ∙ at))
]

-- the page of any slot
pub page_inside : {V : Type 0} (es : List (ℕ × V)) (index : List (Option ℕ)) (page slot : ℕ) → IsKept es index → slice_get (pages_of es) slot ≡ Some page → page < length index
page_inside es index page slot kept at = inside_index index page slot (kept.indexes.indexed page slot at)

pub found_at : {V : Type 0} (es : List (ℕ × V)) (index : List (Option ℕ)) (page slot : ℕ) → IsKept es index → get_or index page None ≡ Some slot → Found es index page slot
found_at es index page slot kept at =
    let place : slice_get (pages_of es) slot ≡ Some page = kept.indexes.listed page slot at in
    let here = entry_at es slot page place in
    record {
      within = slice_get_within es slot _ here.1;
      noted = inside_index index page slot at;
      value = here.0;
      entry = here.1;
      has = get-look_up index es page kept.indexes
          ∙ ap (λ o. option_and_then (λ i. option_map (λ e. e.1) (slice_get es i)) o) at ∙ ap (option_map (λ e. e.1)) here.1;
    }

pub absent_at : {V : Type 0} (es : List (ℕ × V)) (index : List (Option ℕ)) (page : ℕ) → IsKept es index → get_or index page None ≡ None → get (from_entries {R = nat_cmp} es) page ≡ None
absent_at es index page kept none =
    get-look_up index es page kept.indexes ∙ ap (λ o. option_and_then (λ i. option_map (λ e. e.1) (slice_get es i)) o) none

pub length-entries_of : {V : Type 0} (slots : List (Slot V)) → length (entries_of slots) ≡ length slots
length-entries_of {V} slots = length-map slots (λ (s : Slot V). (s.page, s.value))

-- what a read of a slot gives
pub slot_read : {V : Type 0} (slots : List (Slot V)) (i : ℕ) (s : Slot V) → i < length slots → s ≡ get_or slots i s → slice_get (entries_of slots) i ≡ Some (s.page, s.value)
slot_read slots i s within is = slice_get-map (λ s. (s.page, s.value)) slots i ∙ ap (option_map (λ s. (s.page, s.value))) (slice_get_read slots (length slots) i s refl within is)

-- a table with nothing in it
pub kept_empty : {V : Type 0} (slots : List (Slot V)) (index : List (Option ℕ)) → slots ≡ [] → index ≡ no_slots → IsKept (entries_of slots) index
kept_empty {V} slots index no_entries unmarked = record {
  indexes = rw no_entries (record { listed = λ p i h. absurd (none-some i (sym (none_in index p unmarked) ∙ h)); indexed = λ p i h. absurd (none-some p h) });
  counted = rw no_entries (len-empty nat_cmp V);
  few = rw no_entries (omega arith);
  places = ap length unmarked ∙ length-no_slots;
}

pub no_values : {V : Type 0} (slots : List (Slot V)) → slots ≡ [] → from_entries {R = nat_cmp} (entries_of slots) ≡ empty
no_values slots none = ap (λ l. from_entries (entries_of l)) none

-- the index finds a slot exactly for the pages of the map
pub is_there : {V : Type 0} (es : List (ℕ × V)) (index : List (Option ℕ)) (page : ℕ) → IsKept es index → is_some (get (from_entries {R = nat_cmp} es) page) ≡ is_some (get_or index page None)
is_there {V} es index page kept =
    elim (get_or index page None) as (λ o. get_or index page None ≡ o → is_some (get (from_entries {R = nat_cmp} es) page) ≡ is_some o) [
      | None ↦ λ none. ap is_some (absent_at es index page kept none)
      | Some slot ↦ λ some. let found = found_at es index page slot kept some in ap is_some found.has
    ] refl

-- ---- a value written over another

entries_of-set : {V : Type 0} (slots : List (Slot V)) (i page : ℕ) (v : V) → entries_of (set slots i (record { page = page; value = v })) ≡ set (entries_of slots) i (page, v)
entries_of-set {V} slots i page v = map-set (λ (s : Slot V). (s.page, s.value)) slots i (record { page = page; value = v })

pub written_values : {V : Type 0} (slots : List (Slot V)) (index : List (Option ℕ)) (page slot : ℕ) (v : V) → IsKept (entries_of slots) index → get_or index page None ≡ Some slot
    → from_entries {R = nat_cmp} (entries_of (set slots slot (record { page = page; value = v }))) ≡ insert (from_entries (entries_of slots)) page v
written_values slots index page slot v kept at =
    ap from_entries (entries_of-set slots slot page v) ∙ from_entries-set index (entries_of slots) slot page v kept.indexes at

pub kept_written : {V : Type 0} (slots : List (Slot V)) (index : List (Option ℕ)) (page slot : ℕ) (v : V) → IsKept (entries_of slots) index → get_or index page None ≡ Some slot
    → IsKept (entries_of (set slots slot (record { page = page; value = v }))) index
kept_written {V} slots index page slot v kept at =
    let found = found_at (entries_of slots) index page slot kept at in
    let longer : length (entries_of (set slots slot (record { page = page; value = v }))) ≡ length (entries_of slots) =
    ap length (entries_of-set slots slot page v) ∙ length-set (entries_of slots) slot (page, v) in
    record {
      indexes = rw (entries_of-set slots slot page v, pages_of-set (entries_of slots) slot page v (kept.indexes.listed page slot at)) kept.indexes;
      counted = ap len (written_values slots index page slot v kept at) ∙ len-write (from_entries (entries_of slots)) page v found.value found.has ∙ kept.counted ∙ sym longer;
      few = let was = kept.few in omega (arith, longer);
      places = kept.places;
    }

-- ---- writes in the index

pub index_noted : (index after : List (Option ℕ)) (page slot : ℕ) → page < length index → after ≡ set index page (Some slot) → (q : ℕ) → get_or after q None ≡ cond (q == page) (Some slot) (get_or index q None)
index_noted index after page slot page_in write = λ q. ap (λ l. get_or l q None) write ∙ get_or-set index page (Some slot) None q page_in

-- they leave it its length
pub length-write : (index after : List (Option ℕ)) (page : ℕ) (slot : Option ℕ) → after ≡ set index page slot → length after ≡ length index
length-write index after page slot write = ap length write ∙ length-set index page slot

-- ---- a value put in a new slot

-- the index is no longer than the numbers of pages go, so a page of the map is below their limit
KeysBelow-kept : {V : Type 0} (es : List (ℕ × V)) (index : List (Option ℕ)) → IsKept es index → KeysBelow (from_entries {R = nat_cmp} es) 262144
KeysBelow-kept es index kept = record {
  below = λ key value has. elim (get_or index key None) as (λ o. get_or index key None ≡ o → key < 262144) [
    | None ↦ λ none. absurd (none-some value (sym (absent_at es index key kept none) ∙ has))
    | Some slot ↦ λ some. let inside = inside_index index key slot some in let places = kept.places in omega arith
  ] refl;
}

-- a page that is not there yet leaves a slot for it
pub free_slot : {V : Type 0} (es : List (ℕ × V)) (index : List (Option ℕ)) (page : ℕ) (v : V) → IsKept es index → get (from_entries {R = nat_cmp} es) page ≡ None → page < 262144 → length es < 262144
free_slot es index page v kept none small =
    let keys : KeysBelow (insert (from_entries {R = nat_cmp} es) page v) 262144 = KeysBelow-insert (from_entries es) page v 262144 (KeysBelow-kept es index kept) small in
    let bounded = len-KeysBelow 262144 (insert (from_entries es) page v) keys in
    let longer = len-put (from_entries es) page (length es) v none kept.counted in
    omega arith

entries_of-push : {V : Type 0} (slots : List (Slot V)) (s : Slot V) → entries_of (slots ++ s ∷ []) ≡ entries_of slots ++ (s.page, s.value) ∷ []
entries_of-push {V} slots s = map-append (λ (s : Slot V). (s.page, s.value)) slots (s ∷ [])

pub pushed_values : {V : Type 0} (slots new : List (Slot V)) (s : Slot V) → get (from_entries {R = nat_cmp} (entries_of slots)) s.page ≡ None → new ≡ slots ++ s ∷ []
    → from_entries {R = nat_cmp} (entries_of new) ≡ insert (from_entries (entries_of slots)) s.page s.value
pushed_values slots new s none pushed =
    ap (λ l. from_entries (entries_of l)) pushed ∙ ap from_entries (entries_of-push slots s) ∙ from_entries-push (entries_of slots) s.page s.value none

pub kept_pushed : {V : Type 0} (slots new : List (Slot V)) (index after : List (Option ℕ)) (s : Slot V) → IsKept (entries_of slots) index → get (from_entries {R = nat_cmp} (entries_of slots)) s.page ≡ None
    → s.page < 262144 → new ≡ slots ++ s ∷ [] → ((q : ℕ) → get_or after q None ≡ cond (q == s.page) (Some (length slots)) (get_or index q None)) → length after ≡ length index → IsKept (entries_of new) after
kept_pushed slots new index after s kept none small pushed noted same =
    let es = entries_of slots in
    let free = unindexed index es s.page kept.indexes none in
    let fits = free_slot es index s.page s.value kept none small in
    let longer : length (entries_of new) ≡ length es + 1 = ap (λ l. length (entries_of l)) pushed ∙ ap length (entries_of-push slots s) ∙ length-append es ((s.page, s.value) ∷ []) in
    record {
      indexes = rw (pushed, entries_of-push slots s)
          (Indexes-push index after es s.page s.value kept.indexes free (λ q. noted q ∙ ap (λ n. cond (q == s.page) (Some n) (get_or index q None)) (sym (length-entries_of slots))));
      counted = ap len (pushed_values slots new s none pushed) ∙ len-put (from_entries es) s.page (length es) s.value none kept.counted ∙ sym longer;
      few = omega (arith, longer);
      places = same ∙ kept.places;
    }

-- ---- a page forgotten

entries_of-swap_remove : {V : Type 0} (slots : List (Slot V)) (i : ℕ) (d : Slot V) → entries_of (swap_remove slots i d) ≡ swap_remove (entries_of slots) i (d.page, d.value)
entries_of-swap_remove {V} slots i d = map-swap_remove (λ (s : Slot V). (s.page, s.value)) slots i d

-- the page in the last slot
pub last_page : {V : Type 0} (slots : List (Slot V)) (n : ℕ) (s : Slot V) → n + 1 ≡ length slots → s ≡ get_or slots n s → slice_get (pages_of (entries_of slots)) (length (entries_of slots) - 1) ≡ Some s.page
last_page slots n s last is =
    let n_is : length (entries_of slots) - 1 ≡ n = let l = length-entries_of slots in omega arith in
    rw n_is (slice_get-map (λ e. e.0) (entries_of slots) n ∙ ap (option_map (λ e. e.0)) (slot_read slots n s (omega arith) is))

pub forgotten_values : {V : Type 0} (slots new : List (Slot V)) (index after : List (Option ℕ)) (page slot : ℕ) (d last : Slot V) → IsKept (entries_of slots) index → get_or index page None ≡ Some slot → slice_get (pages_of (entries_of slots)) (length (entries_of slots) - 1) ≡ Some last.page
    → new ≡ swap_remove slots slot d → Forgets index after page last.page slot → from_entries {R = nat_cmp} (entries_of new) ≡ remove (from_entries (entries_of slots)) page
forgotten_values slots new index after page slot d last kept at end removed noted =
    ap (λ l. from_entries (entries_of l)) removed ∙ ap from_entries (entries_of-swap_remove slots slot d)
    ∙ from_entries-forgets index after (entries_of slots) page last.page slot _ kept.indexes at end noted

pub kept_forgotten : {V : Type 0} (slots new : List (Slot V)) (index after : List (Option ℕ)) (page slot : ℕ) (d last : Slot V) → IsKept (entries_of slots) index → get_or index page None ≡ Some slot → slice_get (pages_of (entries_of slots)) (length (entries_of slots) - 1) ≡ Some last.page
    → new ≡ swap_remove slots slot d → Forgets index after page last.page slot → length new + 1 ≡ length slots → length after ≡ length index → IsKept (entries_of new) after
kept_forgotten slots new index after page slot d last kept at end removed noted shorter same =
    let es = entries_of slots in
    let found = found_at es index page slot kept at in
    let less : length (entries_of new) + 1 ≡ length es = let a = length-entries_of slots in let b = length-entries_of new in omega arith in
    record {
      indexes = rw (removed, entries_of-swap_remove slots slot d) (Indexes-forgets index after es page last.page slot _ kept.indexes at end noted);
      counted =
          let gone = ap len (forgotten_values slots new index after page slot d last kept at end removed noted) ∙ len-forget (from_entries es) page found.value found.has in
          let was = kept.counted in
          omega (arith, gone, less);
      few = let was = kept.few in omega (arith, less);
      places = same ∙ kept.places;
    }

-- the index after its two writes
pub forgets_sets : (index noted after : List (Option ℕ)) (page moved slot : ℕ) → page < length index → moved < length index → noted ≡ set index moved (Some slot) → after ≡ set noted page None → Forgets index after page moved slot
forgets_sets index noted after page moved slot page_in moved_in first second = λ q.
    ap (λ l. get_or l q None) (second ∙ ap (λ l. set l page None) first)
    ∙ get_or-set (set index moved (Some slot)) page None None q (rw (length-set index moved (Some slot)) page_in)
    ∙ ap (cond (q == page) None) (get_or-set index moved (Some slot) None q moved_in)

-- ---- the slot of a page goes to another page

-- the index after its two writes
pub hands_over_sets : (index forgot after : List (Option ℕ)) (page other slot : ℕ) → page < length index → other < length index → forgot ≡ set index page None → after ≡ set forgot other (Some slot) → HandsOver index after page other slot
hands_over_sets index forgot after page other slot page_in other_in first second = λ q.
    ap (λ l. get_or l q None) (second ∙ ap (λ l. set l other (Some slot)) first)
    ∙ get_or-set (set index page None) other (Some slot) None q (rw (length-set index page None) other_in)
    ∙ ap (cond (q == other) (Some slot)) (get_or-set index page None None q page_in)

pub handed_values : {V : Type 0} (slots new : List (Slot V)) (index after : List (Option ℕ)) (page other slot : ℕ) (v : V) → IsKept (entries_of slots) index → get_or index page None ≡ Some slot → get (from_entries {R = nat_cmp} (entries_of slots)) other ≡ None
    → new ≡ set slots slot (record { page = other; value = v }) → HandsOver index after page other slot → from_entries {R = nat_cmp} (entries_of new) ≡ insert (remove (from_entries (entries_of slots)) page) other v
handed_values slots new index after page other slot v kept at none written noted =
    let es = entries_of slots in
    ap (λ l. from_entries (entries_of l)) written ∙ ap from_entries (entries_of-set slots slot other v)
    ∙ from_entries-hands_over index after es page other slot v kept.indexes at (unindexed index es other kept.indexes none) noted

pub kept_handed : {V : Type 0} (slots new : List (Slot V)) (index after : List (Option ℕ)) (page other slot : ℕ) (v : V) → IsKept (entries_of slots) index → get_or index page None ≡ Some slot → get (from_entries {R = nat_cmp} (entries_of slots)) other ≡ None
    → new ≡ set slots slot (record { page = other; value = v }) → HandsOver index after page other slot → length after ≡ length index → IsKept (entries_of new) after
kept_handed slots new index after page other slot v kept at none written noted same =
    let es = entries_of slots in
    let found = found_at es index page slot kept at in
    let longer : length (entries_of new) ≡ length es = ap (λ l. length (entries_of l)) written ∙ ap length (entries_of-set slots slot other v) ∙ length-set es slot (other, v) in
    record {
      indexes = rw (written, entries_of-set slots slot other v)
          (Indexes-hands_over index after es page other slot v kept.indexes at (unindexed index es other kept.indexes none) noted);
      counted =
          let was = kept.counted in
          let handed = ap len (handed_values slots new index after page other slot v kept at none written noted)
          ∙ len-hands_over (from_entries es) page other v found.value found.has none (let w = found.within in omega arith) in
          omega (arith, handed, longer);
      few = let was = kept.few in omega (arith, longer);
      places = same ∙ kept.places;
    }
