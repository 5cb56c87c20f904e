-- For callers: the frames under a guest's pages, after one page has changed.
use Rattle.std.proofs.Common.{◌≡◌, ℕ, zero, suc, ◌<◌, true, false, cond, ltb, List, [], ◌∷◌, length, set, refl, sym, ap, ◌∙◌, IsTrue, arith, rules}
use Rattle.std.specs.Prelude.{count_by}
use Rattle.std.proofs.lemmas.List.Sums.{sum_by-cons, sum_by-set}
use Rattle.std.specs.Cmp.{nat_cmp_total}
use Rattle.std.specs.FinSet as sets
use Rattle.std.specs.FinSet.{members, same_set, nat_cmp-IsAntisymmetric}
use Rattle.vm_pages.specs.Pages.{count}
use Rattle.vm_pages.proofs.PageSets.{count-cons}
use Rattle.vm_frames.specs.Frame.{FrameView}
use Rattle.vm_pagemap.specs.declared.page_map.Page.{Page}
use Rattle.vm_pagemap.specs.declared.page_map.Page.TheVariants.{Absent, In, Out}
use Rattle.vm_pagemap.specs.PageMap.{absent_pages, page_at, resident, written, IsNotIn}
use Rattle.vm_pagemap.specs.FramesUnder.{frames_under, is_in_frame, AreApart}

abbrev weight : ℕ → Page → ℕ
weight number page = cond (is_in_frame number page) 1 0

-- a number is of the set exactly where a page is in its frame
pub contains-frames_under : (pages : List Page) (n : ℕ) → sets.contains (frames_under pages) n ≡ ltb 0 (count_by (is_in_frame n) pages)
contains-frames_under [] n = grind (members, rules)
contains-frames_under (Absent ∷ pages) n = contains-frames_under pages n
contains-frames_under (In frame ∷ pages) n = grind (members, rules, contains-frames_under pages n, sum_by-cons (weight n) (In frame) pages)
contains-frames_under (Out ∷ pages) n = contains-frames_under pages n

-- a new guest has no frame under its pages
pub frames_under-absent_pages : (size : ℕ) → frames_under (absent_pages size) ≡ sets.empty
frames_under-absent_pages zero = refl
frames_under-absent_pages (suc size) = frames_under-absent_pages size

none_in_frame : (size n : ℕ) → count_by (is_in_frame n) (absent_pages size) ≡ 0
none_in_frame zero n = refl
none_in_frame (suc size) n = none_in_frame size n

pub AreApart-absent_pages : (size : ℕ) → AreApart (absent_pages size)
AreApart-absent_pages size = record { each = λ n. omega (arith, none_in_frame size n) }

pub is_in_frame-not_in : (page : Page) (n : ℕ) → IsNotIn page → is_in_frame n page ≡ false
is_in_frame-not_in Absent n out = refl
is_in_frame-not_in (In frame) n out = let no : true ≡ false = out in absurd (cc)
is_in_frame-not_in Out n out = refl

-- a page gives its frame up
pub frames_under-remove : (pages : List Page) (page : ℕ) (frame : FrameView) → AreApart pages → page < length pages → page_at pages page ≡ In frame → frames_under (set pages page Absent) ≡ sets.remove (frames_under pages) frame.number
frames_under-remove pages page frame apart there is =
    same_set nat_cmp_total nat_cmp-IsAntisymmetric _ _ (λ n.
    let changed = rw is at (sum_by-set (weight n) pages page Absent Absent there) in
    grind (members, rules, contains-frames_under (set pages page Absent) n, contains-frames_under pages n, changed, apart.each n))

-- a page gets a frame
pub frames_under-put : (pages : List Page) (page : ℕ) (frame : FrameView) → page < length pages → IsNotIn (page_at pages page) → frames_under (set pages page (In frame)) ≡ sets.insert (frames_under pages) frame.number
frames_under-put pages page frame there out =
    same_set nat_cmp_total nat_cmp-IsAntisymmetric _ _ (λ n.
    let changed = rw (is_in_frame-not_in (page_at pages page) n out) at (sum_by-set (weight n) pages page (In frame) Absent there) in
    grind (members, rules, contains-frames_under (set pages page (In frame)) n, contains-frames_under pages n, changed))

-- frames stay apart
pub AreApart-remove : (pages : List Page) (page : ℕ) → AreApart pages → page < length pages → AreApart (set pages page Absent)
AreApart-remove pages page apart there = record { each = λ n. omega (arith, sum_by-set (weight n) pages page Absent Absent there, apart.each n) }

pub AreApart-put : (pages : List Page) (page : ℕ) (frame : FrameView) → AreApart pages → page < length pages → IsNotIn (page_at pages page) → sets.contains (frames_under pages) frame.number ≡ false → AreApart (set pages page (In frame))
AreApart-put pages page frame apart there out new = record {
  each = λ n.
      let changed = rw (is_in_frame-not_in (page_at pages page) n out) at (sum_by-set (weight n) pages page (In frame) Absent there) in
      grind (rules, contains-frames_under pages n, contains-frames_under pages frame.number, changed, apart.each n);
}

-- the frame of a page that is in is among them
pub contains-frame : (pages : List Page) (page : ℕ) (frame : FrameView) → page < length pages → page_at pages page ≡ In frame → IsTrue (sets.contains (frames_under pages) frame.number)
contains-frame pages page frame there is =
    let changed = rw is at (sum_by-set (weight frame.number) pages page Absent Absent there) in
    grind (rules, contains-frames_under pages frame.number, changed)

-- a page that is marked, or written, changes no frame's number
frames_alike : (pages : List Page) (page : ℕ) (new : Page) → ((n : ℕ) → is_in_frame n (page_at pages page) ≡ is_in_frame n new) → page < length pages → (n : ℕ) → count_by (is_in_frame n) (set pages page new) ≡ count_by (is_in_frame n) pages
frames_alike pages page new alike there n =
    let changed = rw (alike n) at (sum_by-set (weight n) pages page new Absent there) in
    omega (arith, changed)

pub frames_under-set_alike : (pages : List Page) (page : ℕ) (new : Page) → page < length pages → ((n : ℕ) → is_in_frame n (page_at pages page) ≡ is_in_frame n new) → frames_under (set pages page new) ≡ frames_under pages
frames_under-set_alike pages page new there alike =
    same_set nat_cmp_total nat_cmp-IsAntisymmetric _ _ (λ n.
    contains-frames_under (set pages page new) n ∙ ap (λ k. ltb 0 k) (frames_alike pages page new alike there n) ∙ sym (contains-frames_under pages n))

pub AreApart-set_alike : (pages : List Page) (page : ℕ) (new : Page) → AreApart pages → page < length pages → ((n : ℕ) → is_in_frame n (page_at pages page) ≡ is_in_frame n new) → AreApart (set pages page new)
AreApart-set_alike pages page new apart there alike = record { each = λ n. omega (arith, frames_alike pages page new alike there n, apart.each n) }

pub is_in_frame-written : (page : Page) (offset : ℕ) (new : List ℕ) (n : ℕ) → is_in_frame n page ≡ is_in_frame n (written page offset new)
is_in_frame-written Absent offset new n = refl
is_in_frame-written (In frame) offset new n = refl
is_in_frame-written Out offset new n = refl

pub frames_under-write : (pages : List Page) (page offset : ℕ) (new : List ℕ) → page < length pages → frames_under (set pages page (written (page_at pages page) offset new)) ≡ frames_under pages
frames_under-write pages page offset new there = frames_under-set_alike pages page _ there (is_in_frame-written (page_at pages page) offset new)

pub frames_under-mark_out : (pages : List Page) (page : ℕ) → page < length pages → IsNotIn (page_at pages page) → frames_under (set pages page Out) ≡ frames_under pages
frames_under-mark_out pages page there out = frames_under-set_alike pages page Out there (λ n. is_in_frame-not_in (page_at pages page) n out)

pub frames_under-mark_absent : (pages : List Page) (page : ℕ) → page < length pages → IsNotIn (page_at pages page) → frames_under (set pages page Absent) ≡ frames_under pages
frames_under-mark_absent pages page there out = frames_under-set_alike pages page Absent there (λ n. is_in_frame-not_in (page_at pages page) n out)

-- frames that are apart are as many as the pages that are in
AreApart-rest : (page : Page) (pages : List Page) → AreApart (page ∷ pages) → AreApart pages
AreApart-rest page pages apart = record { each = λ n. omega (arith, sum_by-cons (weight n) page pages, apart.each n) }

new_number : (frame : FrameView) (pages : List Page) → AreApart (In frame ∷ pages) → sets.contains (frames_under pages) frame.number ≡ false
new_number frame pages apart =
    grind (rules, contains-frames_under pages frame.number, sum_by-cons (weight frame.number) (In frame) pages, apart.each frame.number)

pub len-frames_under : (pages : List Page) → AreApart pages → sets.len (frames_under pages) ≡ count (resident pages)
len-frames_under [] apart = grind (members, rules)
len-frames_under (Absent ∷ pages) apart = len-frames_under pages (AreApart-rest Absent pages apart)
len-frames_under (In frame ∷ pages) apart =
    grind (members, rules, new_number frame pages apart, len-frames_under pages (AreApart-rest (In frame) pages apart), count-cons true (resident pages))
len-frames_under (Out ∷ pages) apart = len-frames_under pages (AreApart-rest Out pages apart)
