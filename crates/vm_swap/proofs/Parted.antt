-- What one page more or less leaves of an area's invariant.
use Rattle.std.proofs.Common.{◌≡◌, ℕ, zero, suc, ◌-◌, subst, ◌+◌, ◌<◌, ◌≤◌, ◌^◌, Bool, true, false, cond, List, min, Option, Some, None, refl, sym, ap, ◌∙◌, inl, inr, arith}
use Rattle.std.proofs.lemmas.Bool.{cases_eq, eq-eqb, ne_eqb, cond-true, cond-false}
use Rattle.std.proofs.lemmas.Option.{none-some}
use Rattle.std.specs.Option.{is_some}
use Rattle.std.specs.Cmp.{nat_cmp_total}
use Rattle.std.specs.Ordering.{nat_cmp}
use Rattle.std.specs.FinMap.{get, insert, remove, len, len-insert, len-remove, get-empty, empty, len-empty, empty_of_len}
use Rattle.vm_patches.specs.declared.patch.ByteWrite.{ByteWrite}
use Rattle.vm_patches.specs.Patches.{patched, zero_bytes}
use Rattle.vm_swap.specs.Table.{TableView}
use Rattle.vm_swap.specs.Merged.{Whole, Few, merged, IsParted}
use Rattle.vm_swap.proofs.Slots.{nat_get-insert, nat_get-remove, len-put}
use Rattle.vm_swap.proofs.Absent.{get-remove-absent, remove-absent}
use Rattle.vm_swap.proofs.Merged.{first_of, bytes_of, get-merged, is_some-merged, merged-insert_whole, merged-insert_few, merged-remove, merged-empty, len-merged}

-- a page that is in neither
neither : (o : Option (List ℕ)) (p : Option (List ByteWrite)) → first_of o (bytes_of p) ≡ None → (o ≡ None) × (p ≡ None)
neither None None none = (refl, refl)
neither None (Some writes) none = absurd (none-some _ (sym none))
neither (Some bytes) p none = absurd (none-some _ (sym none))

pub absent_both : (whole : Whole) (few : Few) (page : ℕ) → get (merged whole few) page ≡ None → (get whole page ≡ None) × (get few page ≡ None)
absent_both whole few page none = neither _ _ (sym (get-merged whole few page) ∙ none)

-- a page of few bytes is not whole too
pub few_alone : (capacity : ℕ) (whole : TableView (List ℕ)) (few : TableView (List ByteWrite)) (page : ℕ) → IsParted capacity whole few → is_some (get few.values page) ≡ true → get whole.values page ≡ None
few_alone capacity whole few page kept there =
    elim (get whole.values page) as (λ o. get whole.values page ≡ o → o ≡ None) [
      | None ↦ λ _. refl
      | Some bytes ↦ λ is. let no : false ≡ true = ap is_some (sym (kept.apart page (ap is_some is))) ∙ there in absurd (cc)
    ] refl

-- room for one more in each
pub room_whole : (capacity : ℕ) (whole : TableView (List ℕ)) (few : TableView (List ByteWrite)) → IsParted capacity whole few → len (merged whole.values few.values) < capacity → min (len whole.values + 1) 262144 ≤ whole.room
room_whole capacity whole few kept fits = omega (arith, kept.whole_room, len-merged whole.values few.values kept.apart)

pub room_few : (capacity : ℕ) (whole : TableView (List ℕ)) (few : TableView (List ByteWrite)) → IsParted capacity whole few → len (merged whole.values few.values) < capacity → min (len few.values + 1) 262144 ≤ few.room
room_few capacity whole few kept fits = omega (arith, kept.few_room, len-merged whole.values few.values kept.apart)

-- ---- one page more

pub parted_whole : (capacity : ℕ) (whole : TableView (List ℕ)) (few : TableView (List ByteWrite)) (page : ℕ) (bytes : List ℕ) → IsParted capacity whole few → get (merged whole.values few.values) page ≡ None → len (merged whole.values few.values) < capacity
    → IsParted capacity (record whole { values = insert whole.values page bytes }) few
parted_whole capacity whole few page bytes kept none fits = record {
  apart = λ q there. elim (cases_eq q page) [
    | inl here ↦ ap (get few.values) here ∙ (absent_both whole.values few.values page none).1
    | inr other ↦ kept.apart q (ap is_some (sym (nat_get-insert whole.values page bytes q ∙ cond-false _ _ _ (ne_eqb q page other))) ∙ there)
  ];
  within = rw (merged-insert_whole whole.values few.values page bytes) (omega (arith, len-put (merged whole.values few.values) page (len (merged whole.values few.values)) bytes none refl));
  small = kept.small;
  whole_room = kept.whole_room;
  few_room = kept.few_room;
}

pub parted_few : (capacity : ℕ) (whole : TableView (List ℕ)) (few : TableView (List ByteWrite)) (page : ℕ) (writes : List ByteWrite) → IsParted capacity whole few → get (merged whole.values few.values) page ≡ None → len (merged whole.values few.values) < capacity
    → IsParted capacity whole (record few { values = insert few.values page writes })
parted_few capacity whole few page writes kept none fits =
    let gone = (absent_both whole.values few.values page none).0 in
    record {
      apart = λ q there. elim (cases_eq q page) [
        | inl here ↦ let no : false ≡ true = ap is_some (sym (ap (get whole.values) here ∙ gone)) ∙ there in absurd (cc)
        | inr other ↦ nat_get-insert few.values page writes q ∙ cond-false _ _ _ (ne_eqb q page other) ∙ kept.apart q there
      ];
      within = rw (merged-insert_few whole.values few.values page writes gone) (omega (arith, len-put (merged whole.values few.values) page (len (merged whole.values few.values)) (patched zero_bytes writes) none refl));
      small = kept.small;
      whole_room = kept.whole_room;
      few_room = kept.few_room;
    }

-- ---- a page written over

len-over : (m : Whole) (page : ℕ) (bytes : List ℕ) → is_some (get m page) ≡ true → len (insert m page bytes) ≡ len m
len-over m page bytes there = len-insert nat_cmp_total m page bytes ∙ cond-true _ _ _ there

pub there_whole : (whole : Whole) (few : Few) (page : ℕ) → is_some (get whole page) ≡ true → is_some (get (merged whole few) page) ≡ true
there_whole whole few page there = is_some-merged whole few page ∙ ap (λ b. cond b true (is_some (get few page))) there

pub there_few : (whole : Whole) (few : Few) (page : ℕ) → is_some (get few page) ≡ true → is_some (get (merged whole few) page) ≡ true
there_few whole few page there = is_some-merged whole few page ∙ ap (cond (is_some (get whole page)) true) there ∙ same (is_some (get whole page))
  where
    same : (b : Bool) → cond b true true ≡ true
    same true = refl
    same false = refl

pub parted_over_whole : (capacity : ℕ) (whole : TableView (List ℕ)) (few : TableView (List ByteWrite)) (page : ℕ) (bytes : List ℕ) → IsParted capacity whole few → is_some (get whole.values page) ≡ true
    → IsParted capacity (record whole { values = insert whole.values page bytes }) few
parted_over_whole capacity whole few page bytes kept there = record {
  apart = λ q some. elim (cases_eq q page) [
    | inl here ↦ ap (get few.values) here ∙ kept.apart page there
    | inr other ↦ kept.apart q (ap is_some (sym (nat_get-insert whole.values page bytes q ∙ cond-false _ _ _ (ne_eqb q page other))) ∙ some)
  ];
  within = rw (merged-insert_whole whole.values few.values page bytes, len-over (merged whole.values few.values) page bytes (there_whole whole.values few.values page there)) kept.within;
  small = kept.small;
  whole_room = kept.whole_room;
  few_room = kept.few_room;
}

pub parted_over_few : (capacity : ℕ) (whole : TableView (List ℕ)) (few : TableView (List ByteWrite)) (page : ℕ) (writes : List ByteWrite) → IsParted capacity whole few → is_some (get few.values page) ≡ true
    → IsParted capacity whole (record few { values = insert few.values page writes })
parted_over_few capacity whole few page writes kept there =
    let gone = few_alone capacity whole few page kept there in
    record {
      apart = λ q some. elim (cases_eq q page) [
        | inl here ↦ let no : false ≡ true = ap is_some (sym (ap (get whole.values) here ∙ gone)) ∙ some in absurd (cc)
        | inr other ↦ nat_get-insert few.values page writes q ∙ cond-false _ _ _ (ne_eqb q page other) ∙ kept.apart q some
      ];
      within = rw (merged-insert_few whole.values few.values page writes gone, len-over (merged whole.values few.values) page (patched zero_bytes writes) (there_few whole.values few.values page there)) kept.within;
      small = kept.small;
      whole_room = kept.whole_room;
      few_room = kept.few_room;
    }

-- ---- one page less

pub len-less : (m : Whole) (page : ℕ) → len (remove m page) ≤ len m
len-less m page = elim (is_some (get m page)) as (λ b. len (remove m page) ≡ cond b (len m - 1) (len m) → len (remove m page) ≤ len m) [
  | true ↦ λ is. omega arith
  | false ↦ λ is. omega arith
] (len-remove nat_cmp_total m page)

pub parted_without : (capacity : ℕ) (whole : TableView (List ℕ)) (few : TableView (List ByteWrite)) (page : ℕ) → IsParted capacity whole few
    → IsParted capacity (record whole { values = remove whole.values page }) (record few { values = remove few.values page })
parted_without capacity whole few page kept = record {
  apart = λ q there. elim (cases_eq q page) [
    | inl here ↦ nat_get-remove few.values page q ∙ cond-true _ _ _ (eq-eqb q page here)
    | inr other ↦ nat_get-remove few.values page q ∙ cond-false _ _ _ (ne_eqb q page other)
        ∙ kept.apart q (ap is_some (sym (nat_get-remove whole.values page q ∙ cond-false _ _ _ (ne_eqb q page other))) ∙ there)
  ];
  within = rw (merged-remove whole.values few.values page) (omega (arith, len-less (merged whole.values few.values) page, kept.within));
  small = kept.small;
  whole_room = kept.whole_room;
  few_room = kept.few_room;
}

-- where the page is there, one more has room once it is gone
len-gone : (m : Whole) (page : ℕ) → is_some (get m page) ≡ true → 0 < len m → len (remove m page) < len m
len-gone m page there some = omega (arith, len-remove nat_cmp_total m page ∙ cond-true _ _ _ there)

pub some_there : (m : Whole) (page : ℕ) → is_some (get m page) ≡ true → 0 < len m
some_there m page there = elim (len m) as (λ n. len m ≡ n → 0 < n) [
  | zero ↦ λ none. let no : false ≡ true = sym (ap (λ f. is_some (get f page)) (empty_of_len m none) ∙ ap is_some (get-empty nat_cmp page)) ∙ there in absurd (cc)
  | suc n ↦ λ _. omega arith
] refl

pub room_after : (capacity : ℕ) (m : Whole) (page : ℕ) → len m ≤ capacity → is_some (get m page) ≡ true → len (remove m page) < capacity
room_after capacity m page within there = omega (arith, len-gone m page there (some_there m page there))

-- ---- a whole page for another

-- nothing goes from the few where the page is whole
few_stays : (whole : TableView (List ℕ)) (few : TableView (List ByteWrite)) (page : ℕ) → get few.values page ≡ None → few ≡ record few { values = remove few.values page }
few_stays whole few page none = λ i. record { values = sym (remove-absent few.values page none) i; room = few.room }

pub traded_pages : (whole : Whole) (few : Few) (page other : ℕ) (bytes : List ℕ) → get few page ≡ None → merged (insert (remove whole page) other bytes) few ≡ insert (remove (merged whole few) page) other bytes
traded_pages whole few page other bytes none =
    merged-insert_whole (remove whole page) few other bytes
    ∙ ap (λ f. insert (merged (remove whole page) f) other bytes) (sym (remove-absent few page none))
    ∙ ap (λ m. insert m other bytes) (merged-remove whole few page)

pub parted_traded : (capacity : ℕ) (whole : TableView (List ℕ)) (few : TableView (List ByteWrite)) (page other : ℕ) (bytes : List ℕ) → IsParted capacity whole few → is_some (get whole.values page) ≡ true → get (merged whole.values few.values) other ≡ None
    → IsParted capacity (record whole { values = insert (remove whole.values page) other bytes }) few
parted_traded capacity whole few page other bytes kept there none =
    let gone = kept.apart page there in
    let without : IsParted capacity (record whole { values = remove whole.values page }) few =
    subst (λ (f : TableView (List ByteWrite)). IsParted capacity (record whole { values = remove whole.values page }) f) (sym (few_stays whole few page gone)) (parted_without capacity whole few page kept) in
    let pages : merged (remove whole.values page) few.values ≡ remove (merged whole.values few.values) page =
    ap (merged (remove whole.values page)) (sym (remove-absent few.values page gone)) ∙ merged-remove whole.values few.values page in
    parted_whole capacity (record whole { values = remove whole.values page }) few other bytes without
    (ap (λ m. get m other) pages ∙ get-remove-absent (merged whole.values few.values) page other none)
    (rw pages (room_after capacity (merged whole.values few.values) page kept.within (there_whole whole.values few.values page there)))

-- ---- a page of few bytes for another

-- nothing goes from the whole ones where the page is none of them
whole_stays : (whole : TableView (List ℕ)) (page : ℕ) → get whole.values page ≡ None → record whole { values = remove whole.values page } ≡ whole
whole_stays whole page none = λ i. record { values = remove-absent whole.values page none i; room = whole.room }

pub traded_few_pages : (whole : Whole) (few : Few) (page other : ℕ) (writes : List ByteWrite) → get whole page ≡ None → get whole other ≡ None
    → merged whole (insert (remove few page) other writes) ≡ insert (remove (merged whole few) page) other (patched zero_bytes writes)
traded_few_pages whole few page other writes none absent =
    merged-insert_few whole (remove few page) other writes absent
    ∙ ap (λ w. insert (merged w (remove few page)) other (patched zero_bytes writes)) (sym (remove-absent whole page none))
    ∙ ap (λ m. insert m other (patched zero_bytes writes)) (merged-remove whole few page)

pub parted_traded_few : (capacity : ℕ) (whole : TableView (List ℕ)) (few : TableView (List ByteWrite)) (page other : ℕ) (writes : List ByteWrite) → IsParted capacity whole few → is_some (get few.values page) ≡ true → get (merged whole.values few.values) other ≡ None
    → IsParted capacity whole (record few { values = insert (remove few.values page) other writes })
parted_traded_few capacity whole few page other writes kept there none =
    let gone = few_alone capacity whole few page kept there in
    let without : IsParted capacity whole (record few { values = remove few.values page }) =
    subst (λ (w : TableView (List ℕ)). IsParted capacity w (record few { values = remove few.values page })) (whole_stays whole page gone) (parted_without capacity whole few page kept) in
    let pages : merged whole.values (remove few.values page) ≡ remove (merged whole.values few.values) page =
    ap (λ w. merged w (remove few.values page)) (sym (remove-absent whole.values page gone)) ∙ merged-remove whole.values few.values page in
    parted_few capacity whole (record few { values = remove few.values page }) other writes without
    (ap (λ m. get m other) pages ∙ get-remove-absent (merged whole.values few.values) page other none)
    (rw pages (room_after capacity (merged whole.values few.values) page kept.within (there_few whole.values few.values page there)))

-- ---- no page

pub parted_empty : (capacity : ℕ) (whole : TableView (List ℕ)) (few : TableView (List ByteWrite)) → whole.values ≡ empty → few.values ≡ empty → capacity < 2 ^ 32 → min capacity 262144 ≤ whole.room → min capacity 262144 ≤ few.room → IsParted capacity whole few
parted_empty capacity whole few no_whole no_few small whole_room few_room = record {
  apart = λ q there. ap (λ m. get m q) no_few ∙ get-empty nat_cmp q;
  within = rw (no_whole, no_few, merged-empty empty) (omega (arith, len-empty nat_cmp (List ℕ)));
  small = small;
  whole_room = whole_room;
  few_room = few_room;
}
