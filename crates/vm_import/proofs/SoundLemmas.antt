-- What a touch leaves of a working set's parts.
use Rattle.std.proofs.Common.{◌≡◌, ℕ, ◌+◌, ◌-◌, ◌/◌, ◌%◌, ◌<◌, ◌≤◌, ◌^◌, ◌==◌, ◌&&◌, ◌||◌, Bool, true, false, not, cond, Option, Some, None, List, [], suc, zero, take, Result, Ok, Err, OnOk, OnErr, ◌∷◌, ◌++◌, length, get_or, set, All, refl, sym, ap, subst, ◌∙◌, arith, if◌then◌else◌, nat_lt, eq-eqb}
use Rattle.std.proofs.Math.Bool.{or-true}
use Rattle.std.proofs.lemmas.Bool.{eqb-true}
use Rattle.std.proofs.lemmas.Bool.Decides.{nat_tests}
use Rattle.std.proofs.Math.Seq.{take-nil}
use Rattle.std.proofs.lemmas.List.{get_or_read}
use Rattle.std.proofs.lemmas.List.Folds.{list_any-append}
use Rattle.std.proofs.lemmas.List.Sums.{fold-append}
use Rattle.std.specs.List.{fold, list_any, position}
use Rattle.vm_import.specs.declared.marks.Mark.{Mark}
use Rattle.vm_import.specs.declared.marks.Mark.TheVariants.{Untouched}
use Rattle.vm_import.specs.declared.recent.RecentPages.{RecentPages}
use Rattle.vm_import.specs.declared.touch.Effect.{Effect}
use Rattle.vm_import.specs.declared.touch.Effect.TheVariants.{Read, Write, Modify}
use Rattle.vm_import.specs.declared.touch.RankedTouch.{RankedTouch}
use Rattle.vm_import.specs.declared.touch.Touch.{Touch}
use Rattle.vm_import.specs.Kept.{rank_of, ranked}
use Rattle.vm_import.specs.Marks.{mark_at, mark_by, mark_covers}
use Rattle.vm_import.specs.Recent.{AreRecent, IsRecent, recent_at, with_recent}
use Rattle.vm_import.specs.Sound.{IsSound}
use Rattle.vm_import.specs.SetSteps.{AddsFront, is_covered, touched, touched_all, with_page}
use Rattle.vm_import.specs.Touches.{touch, touches_by, touches_of, writes_of}
use Rattle.vm_import.specs.WorkingSets.{WorkingSetView, IsWithin}
use Rattle.vm_import.proofs.MarkLemmas.{AreMarks-keep, AreMarks-none, AreMarks-page, AreRecent-keep, AreRecent-none, AreRecent-note, AreRecent-page, cleared, covers_read, mark_covers-is, rank_covered, refuted}
use Rattle.vm_import.proofs.SetStepLemmas.{IsLonger, touched_all-longer}
use Rattle.vm_import.proofs.RankLemmas.{rank_new, rank_within, there_within, with_page_there}

abbrev set_of : List ℕ → List RankedTouch → WorkingSetView
set_of pages kept = record { pages = pages; kept = kept }

-- ---- one touch

-- after room was made for a page and its touch, and the page was looked up
pub record LooksUp (pages more : List ℕ) (old new : List Mark) (kept same : List RankedTouch) (page rank : ℕ) : Type 0 where
  pub pages_are : more ≡ with_page pages page
  pub room : length pages < length new
  pub marks : (rank : ℕ) → mark_at new rank ≡ mark_at old rank
  pub kept_are : same ≡ kept
  pub rank_is : rank ≡ rank_of pages page

pub sound_page : (pages more : List ℕ) (old new : List Mark) (kept same : List RankedTouch) (page rank : ℕ) (read written : RecentPages)
    → IsSound pages old kept read written → LooksUp pages more old new kept same page rank → IsSound more new same read written
sound_page pages more old new kept same page rank read written sound looks =
    let within = sound.marks_are.within in
    subst (λ l. IsSound l new same read written) (sym looks.pages_are)
    (subst (λ l. IsSound (with_page pages page) new l read written) (sym looks.kept_are)
    (record {
      marks_are = AreMarks-page pages page old new kept sound.marks_are looks.room looks.marks;
      read_are = AreRecent-page pages page kept false read within sound.read_are;
      written_are = AreRecent-page pages page kept true written within sound.written_are;
    }))

position_some : (b : Bool) (n i : ℕ) → Some i ≡ cond b (Some n) None → (b ≡ true) × (n ≡ i)
position_some true n i is = (refl, cc)
position_some false n i is = absurd (cc)

position_none : (b : Bool) (n : ℕ) → (let none : Option ℕ = None in none) ≡ cond b (Some n) None → b ≡ false
position_none true n is = absurd (cc)
position_none false n is = refl

-- the mark of a page that was found covers what the touches that were kept cover
pub covers_found : (pages : List ℕ) (marks : List Mark) (kept : List RankedTouch) (read written : RecentPages) (now : WorkingSetView) (page rank : ℕ) (writes : Bool) (mark : Mark) (answer : Bool)
    → set_of pages kept ≡ now → IsSound pages marks kept read written → Some rank ≡ position (λ p. page == p) pages → rank < length pages
    → mark ≡ get_or marks rank mark → answer ≡ mark_covers mark writes → answer ≡ is_covered now.kept (rank_of now.pages page) writes
covers_found pages marks kept read written now page rank writes mark answer view sound found inside is told =
    let rank_is : rank_of pages page ≡ rank = (position_some (nat_lt (rank_of pages page) (length pages)) (rank_of pages page) rank found).1 in
    let room = sound.marks_are.room in
    let within : rank < length marks = omega arith in
    told ∙ ap (λ m. mark_covers m writes) (get_or_read marks rank mark within is Untouched ∙ sound.marks_are.marked rank)
    ∙ mark_covers-is kept rank writes ∙ ap (λ r. is_covered kept r writes) (sym rank_is)
    ∙ ap (λ (s : WorkingSetView). is_covered s.kept (rank_of s.pages page) writes) view

-- and where the page wasn't found none does
pub covers_absent : (pages : List ℕ) (marks : List Mark) (kept : List RankedTouch) (read written : RecentPages) (now : WorkingSetView) (page : ℕ) (writes : Bool)
    → set_of pages kept ≡ now → IsSound pages marks kept read written → (let none : Option ℕ = None in none) ≡ position (λ p. page == p) pages
    → false ≡ is_covered now.kept (rank_of now.pages page) writes
covers_absent pages marks kept read written now page writes view sound lacks =
    let past : nat_lt (rank_of pages page) (length pages) ≡ false = position_none (nat_lt (rank_of pages page) (length pages)) (rank_of pages page) lacks in
    sym (refuted (is_covered kept (rank_of pages page) writes) (nat_lt (rank_of pages page) (length pages))
    (λ covered. let less = rank_covered kept (rank_of pages page) writes (length pages) sound.marks_are.within covered in grind (arith, nat_tests)) past)
    ∙ ap (λ (s : WorkingSetView). is_covered s.kept (rank_of s.pages page) writes) view

-- the touch that nothing covers was kept
pub touched_uncovered : (pages more : List ℕ) (old new : List Mark) (kept same longer : List RankedTouch) (now : WorkingSetView) (rank : ℕ) (t : Touch)
    → set_of pages kept ≡ now → LooksUp pages more old new kept same t.page rank → is_covered now.kept (rank_of now.pages t.page) t.writes ≡ false
    → longer ≡ same ++ record { rank = rank; offset = t.offset; writes = t.writes } ∷ [] → set_of more longer ≡ touched now t
touched_uncovered pages more old new kept same longer now rank t view looks uncovered is =
    let rank_is : rank ≡ rank_of (with_page pages t.page) t.page = looks.rank_is ∙ sym (rank_new pages t.page) in
    let here : is_covered kept (rank_of (with_page pages t.page) t.page) t.writes ≡ false =
    ap (λ r. is_covered kept r t.writes) (rank_new pages t.page) ∙ ap (λ (s : WorkingSetView). is_covered s.kept (rank_of s.pages t.page) t.writes) view ∙ uncovered in
    let step : RankedTouch = record { rank = rank; offset = t.offset; writes = t.writes } in
    let kept_is : longer ≡ (touched (set_of pages kept) t).kept =
    is ∙ ap (λ l. l ++ step ∷ []) looks.kept_are ∙ ap (λ r. kept ++ record { rank = r; offset = t.offset; writes = t.writes } ∷ []) rank_is
    ∙ sym (ap (λ c. if c then kept else kept ++ ranked (with_page pages t.page) t ∷ []) here) in
    let whole : set_of more longer ≡ touched (set_of pages kept) t = λ i. record { pages = looks.pages_are i; kept = kept_is i } in
    whole ∙ ap (λ s. touched s t) view

pub sound_keep : (pages : List ℕ) (marks : List Mark) (kept longer : List RankedTouch) (t : RankedTouch) (read written : RecentPages)
    → IsSound pages marks kept read written → IsWithin (length pages) t → is_covered kept t.rank t.writes ≡ false → longer ≡ kept ++ t ∷ []
    → IsSound pages (set marks t.rank (mark_by t.writes)) longer read written
sound_keep pages marks kept longer t read written sound within uncovered is = subst (λ l. IsSound pages (set marks t.rank (mark_by t.writes)) l read written) (sym is) (record {
  marks_are = AreMarks-keep pages marks kept t sound.marks_are within uncovered;
  read_are = AreRecent-keep pages kept t false read sound.read_are;
  written_are = AreRecent-keep pages kept t true written sound.written_are;
})

-- the touch is kept, and its page marked
pub sound_touch : (pages more : List ℕ) (old new : List Mark) (kept same longer : List RankedTouch) (now : WorkingSetView) (rank : ℕ) (t : Touch) (read written : RecentPages) (mark : Mark)
    → set_of pages kept ≡ now → IsSound pages old kept read written → LooksUp pages more old new kept same t.page rank → t.offset < 4096
    → is_covered now.kept (rank_of now.pages t.page) t.writes ≡ false
    → mark ≡ mark_by t.writes → longer ≡ same ++ record { rank = rank; offset = t.offset; writes = t.writes } ∷ [] → IsSound more (set new rank mark) longer read written
sound_touch pages more old new kept same longer now rank t read written mark view sound looks offset uncovered mark_is is =
    let step : RankedTouch = record { rank = rank; offset = t.offset; writes = t.writes } in
    let found : rank < length more =
    subst (λ l. rank < length l) (sym looks.pages_are)
    (subst (λ r. r < length (with_page pages t.page)) (sym (looks.rank_is ∙ sym (rank_new pages t.page))) (rank_within (with_page pages t.page) t.page (with_page_there pages t.page))) in
    let here : is_covered same rank t.writes ≡ false =
    ap (λ l. is_covered l rank t.writes) looks.kept_are ∙ ap (λ r. is_covered kept r t.writes) looks.rank_is
    ∙ ap (λ (s : WorkingSetView). is_covered s.kept (rank_of s.pages t.page) t.writes) view ∙ uncovered in
    subst (λ m. IsSound more (set new rank m) longer read written) (sym mark_is)
    (sound_keep more new same longer step read written (sound_page pages more old new kept same t.page rank read written sound looks) (record { rank = found; offset = offset }) here is)

-- ---- touches that change nothing

pub unchanged : (set : WorkingSetView) (t : Touch) → All (IsWithin (length set.pages)) set.kept → is_covered set.kept (rank_of set.pages t.page) t.writes ≡ true → touched set t ≡ set
unchanged set t within covered =
    let there = there_within set.pages t.page (rank_covered set.kept (rank_of set.pages t.page) t.writes (length set.pages) within covered) in
    let pages : with_page set.pages t.page ≡ set.pages = ap (λ c. if c then set.pages else set.pages ++ t.page ∷ []) there in
    let kept : (touched set t).kept ≡ set.kept =
    ap (λ c. if c then set.kept else set.kept ++ ranked (with_page set.pages t.page) t ∷ []) (ap (λ r. is_covered set.kept r t.writes) (rank_new set.pages t.page) ∙ covered) in
    λ i. record { pages = pages i; kept = kept i }

-- an access within a page of which such touches are covered
pub recent_unchanged : (effect : Effect) (set : WorkingSetView) (address size : ℕ) → All (IsWithin (length set.pages)) set.kept → (address % 4096) + size ≤ 4096
    → is_covered set.kept (rank_of set.pages (address / 4096)) (writes_of effect) ≡ true → touched_all set (touches_of effect address size) ≡ set
unfolding touched_all touches_of
recent_unchanged effect set address size within inside = by effect
  where
    further : nat_lt 4096 ((address % 4096) + size) ≡ false
    further = grind (arith, nat_tests)

    one : (writes : Bool) → is_covered set.kept (rank_of set.pages (address / 4096)) writes ≡ true → fold touched set (touches_by writes address size) ≡ set
    one writes covered =
        let t = touch (address / 4096) (address % 4096) writes in
        ap (λ c. fold touched (touched set t) (if c then touch (address / 4096 + 1) 0 writes ∷ [] else [])) further ∙ unchanged set t within covered

    by : (effect : Effect) → is_covered set.kept (rank_of set.pages (address / 4096)) (writes_of effect) ≡ true → touched_all set (touches_of effect address size) ≡ set
    by Read covered = one false covered
    by Write covered = one true covered
    by Modify covered = fold-append touched set (touches_by false address size) (touches_by true address size)
        ∙ ap (λ s. fold touched s (touches_by true address size)) (one false (covers_read set.kept (rank_of set.pages (address / 4096)) covered)) ∙ one true covered

-- ---- the last page of an access

either : (b : Bool) → (b || not b) ≡ true
either true = refl
either false = refl

touched_covers : (set : WorkingSetView) (t : Touch) → is_covered (touched set t).kept (rank_of (touched set t).pages t.page) t.writes ≡ true
touched_covers set t = by (is_covered set.kept (rank_of (with_page set.pages t.page) t.page) t.writes) refl
  where
    by : (b : Bool) → is_covered set.kept (rank_of (with_page set.pages t.page) t.page) t.writes ≡ b
        → is_covered (if b then set.kept else set.kept ++ ranked (with_page set.pages t.page) t ∷ []) (rank_of (with_page set.pages t.page) t.page) t.writes ≡ true
    by true h = h
    by false h = list_any-append (λ (u : RankedTouch). (u.rank == rank_of (with_page set.pages t.page) t.page) && (u.writes || not t.writes)) set.kept (ranked (with_page set.pages t.page) t ∷ [])
        ∙ ap (λ c. is_covered set.kept (rank_of (with_page set.pages t.page) t.page) t.writes || ((c && (t.writes || not t.writes)) || false))
        (eq-eqb (rank_of (with_page set.pages t.page) t.page) (rank_of (with_page set.pages t.page) t.page) refl)
        ∙ ap (λ c. is_covered set.kept (rank_of (with_page set.pages t.page) t.page) t.writes || (c || false)) (either t.writes)
        ∙ or-true (is_covered set.kept (rank_of (with_page set.pages t.page) t.page) t.writes)

-- the last touch of an access is of the page of its last byte
last_by : (set : WorkingSetView) (writes : Bool) (address size last : ℕ) → 1 ≤ size → size ≤ 1024 → last ≡ (address + (size - 1)) / 4096
    → let new = fold touched set (touches_by writes address size) in is_covered new.kept (rank_of new.pages last) writes ≡ true
last_by set writes address size last some few is = by (nat_lt 4096 ((address % 4096) + size)) refl
  where
    by : (b : Bool) → nat_lt 4096 ((address % 4096) + size) ≡ b
        → let new = fold touched set (touch (address / 4096) (address % 4096) writes ∷ (if b then touch (address / 4096 + 1) 0 writes ∷ [] else [])) in is_covered new.kept (rank_of new.pages last) writes ≡ true
    by true h =
        let first = touched set (touch (address / 4096) (address % 4096) writes) in
        let beyond : 4096 < (address % 4096) + size = grind (arith, nat_tests) in
        let place : last ≡ address / 4096 + 1 = omega arith in
        ap (λ p. is_covered (touched first (touch (address / 4096 + 1) 0 writes)).kept (rank_of (touched first (touch (address / 4096 + 1) 0 writes)).pages p) writes) place
        ∙ touched_covers first (touch (address / 4096 + 1) 0 writes)
    by false h =
        let inside : (address % 4096) + size ≤ 4096 = grind (arith, nat_tests) in
        let place : last ≡ address / 4096 = omega arith in
        ap (λ p. is_covered (touched set (touch (address / 4096) (address % 4096) writes)).kept (rank_of (touched set (touch (address / 4096) (address % 4096) writes)).pages p) writes) place
        ∙ touched_covers set (touch (address / 4096) (address % 4096) writes)

pub last_covered : (effect : Effect) (set new : WorkingSetView) (address size last : ℕ) → 1 ≤ size → size ≤ 1024 → last ≡ (address + (size - 1)) / 4096
    → new ≡ touched_all set (touches_of effect address size) → is_covered new.kept (rank_of new.pages last) (writes_of effect) ≡ true
unfolding touched_all touches_of
last_covered Read set new address size last some few place is =
    ap (λ (s : WorkingSetView). is_covered s.kept (rank_of s.pages last) false) is ∙ last_by set false address size last some few place
last_covered Write set new address size last some few place is =
    ap (λ (s : WorkingSetView). is_covered s.kept (rank_of s.pages last) true) is ∙ last_by set true address size last some few place
last_covered Modify set new address size last some few place is =
    ap (λ (s : WorkingSetView). is_covered s.kept (rank_of s.pages last) true) (is ∙ fold-append touched set (touches_by false address size) (touches_by true address size))
    ∙ last_by (fold touched set (touches_by false address size)) true address size last some few place

-- what covers this effect covers a read
pub covers_reads : (effect : Effect) (kept : List RankedTouch) (rank : ℕ) → is_covered kept rank (writes_of effect) ≡ true → is_covered kept rank false ≡ true
covers_reads Read kept rank covered = covered
covers_reads Write kept rank covered = covers_read kept rank covered
covers_reads Modify kept rank covered = covers_read kept rank covered

-- a page whose touches by this effect are covered is noted
pub sound_note : (pages : List ℕ) (marks : List Mark) (kept : List RankedTouch) (read written more_read more_written : RecentPages) (page : ℕ) (effect : Effect)
    → IsSound pages marks kept read written → is_covered kept (rank_of pages page) (writes_of effect) ≡ true → more_read ≡ with_recent read page
    → more_written ≡ (if writes_of effect then with_recent written page else written) → IsSound pages marks kept more_read more_written
sound_note pages marks kept read written more_read more_written page effect sound covered read_is written_is = record {
  marks_are = sound.marks_are;
  read_are = AreRecent-note pages kept false read more_read page sound.read_are read_is (covers_reads effect kept (rank_of pages page) covered);
  written_are = by (writes_of effect) refl;
}
  where
    by : (b : Bool) → writes_of effect ≡ b → AreRecent pages kept true more_written
    by true e = AreRecent-note pages kept true written more_written page sound.written_are (written_is ∙ ap (λ c. if c then with_recent written page else written) e)
        (ap (is_covered kept (rank_of pages page)) (sym e) ∙ covered)
    by false e = subst (AreRecent pages kept true) (sym (written_is ∙ ap (λ c. if c then with_recent written page else written) e)) sound.written_are

-- a page that was found among the recent ones
pub recent_covered : (pages : List ℕ) (kept : List RankedTouch) (writes : Bool) (recent : RecentPages) (place page : ℕ) → AreRecent pages kept writes recent
    → (recent_at recent place == page) ≡ true → page < 2 ^ 52 → is_covered kept (rank_of pages page) writes ≡ true
recent_covered pages kept writes recent place page are found small = subst (IsRecent pages kept writes) (eqb-true (recent_at recent place) page found) (are place) small

-- ---- what an access adds, in parts

pub on_ok : {T E : Type 0} (r : Result T E) (P Q : Type 0) → (P → Q) → OnOk r P → OnOk r Q
on_ok (Ok x) P Q implies h = implies h
on_ok (Err e) P Q implies h = tt

pub on_err : {T E : Type 0} (r : Result T E) (P Q : Type 0) → (P → Q) → OnErr r P → OnErr r Q
on_err (Ok x) P Q implies h = tt
on_err (Err e) P Q implies h = implies h

pub any_err : {T E : Type 0} (r : Result T E) (P : Type 0) → P → OnErr r P
any_err (Ok x) P h = tt
any_err (Err e) P h = h

pub by_one : (set new : WorkingSetView) (writes : Bool) (address size : ℕ) → (address % 4096) + size ≤ 4096
    → new ≡ touched set (touch (address / 4096) (address % 4096) writes) → new ≡ touched_all set (touches_by writes address size)
unfolding touched_all
by_one set new writes address size inside is =
    let further : nat_lt 4096 ((address % 4096) + size) ≡ false = grind (arith, nat_tests) in
    is ∙ sym (ap (λ c. fold touched (touched set (touch (address / 4096) (address % 4096) writes)) (if c then touch (address / 4096 + 1) 0 writes ∷ [] else [])) further)

pub by_two : (set first new : WorkingSetView) (writes : Bool) (address size : ℕ) → 4096 < (address % 4096) + size
    → first ≡ touched set (touch (address / 4096) (address % 4096) writes) → new ≡ touched first (touch (address / 4096 + 1) 0 writes)
    → new ≡ touched_all set (touches_by writes address size)
unfolding touched_all
by_two set first new writes address size beyond first_is is =
    let further : nat_lt 4096 ((address % 4096) + size) ≡ true = grind (arith, nat_tests) in
    is ∙ ap (λ s. touched s (touch (address / 4096 + 1) 0 writes)) first_is
    ∙ sym (ap (λ c. fold touched (touched set (touch (address / 4096) (address % 4096) writes)) (if c then touch (address / 4096 + 1) 0 writes ∷ [] else [])) further)

pub added_none : (set new : WorkingSetView) (touches : List Touch) → new ≡ set → AddsFront set new touches
unfolding touched_all
added_none set new touches is = (0, is)

pub added_first : (set first new : WorkingSetView) (t : Touch) (touches : List Touch) → first ≡ touched set t → new ≡ first → AddsFront set new (t ∷ touches)
unfolding touched_all
added_first set first new t touches first_is is = (1, is ∙ first_is)

front_of : {A : Type 0} (n : ℕ) (xs ys : List A) → (m : ℕ) × (take m (xs ++ ys) ≡ take n xs)
front_of n [] ys = (0, sym (take-nil n))
front_of zero (x ∷ xs) ys = (0, refl)
front_of (suc n) (x ∷ xs) ys = let rest = front_of n xs ys in (suc rest.0, ap (λ l. x ∷ l) rest.1)

front_behind : {A : Type 0} (n : ℕ) (xs ys : List A) → (m : ℕ) × (take m (xs ++ ys) ≡ xs ++ take n ys)
front_behind n [] ys = (n, refl)
front_behind n (x ∷ xs) ys = let rest = front_behind n xs ys in (suc rest.0, ap (λ l. x ∷ l) rest.1)

pub added_front : (set new : WorkingSetView) (xs ys : List Touch) → AddsFront set new xs → AddsFront set new (xs ++ ys)
added_front set new xs ys added = let front = front_of added.0 xs ys in (front.0, added.1 ∙ ap (touched_all set) (sym front.1))

pub all_added : (set first new : WorkingSetView) (xs ys : List Touch) → first ≡ touched_all set xs → new ≡ touched_all first ys → new ≡ touched_all set (xs ++ ys)
unfolding touched_all
all_added set first new xs ys first_is is = is ∙ ap (λ s. fold touched s ys) first_is ∙ sym (fold-append touched set xs ys)

pub added_behind : (set first new : WorkingSetView) (xs ys : List Touch) → first ≡ touched_all set xs → AddsFront first new ys → AddsFront set new (xs ++ ys)
added_behind set first new xs ys first_is added =
    let front = front_behind added.0 xs ys in
    (front.0, all_added set first new xs (take added.0 ys) first_is added.1 ∙ ap (touched_all set) (sym front.1))

-- the touches of each effect
pub touches-Read : (effect : Effect) (address size : ℕ) → effect ≡ Read → touches_of effect address size ≡ touches_by false address size
unfolding touches_of
touches-Read effect address size is = ap (λ e. touches_of e address size) is

pub touches-Write : (effect : Effect) (address size : ℕ) → effect ≡ Write → touches_of effect address size ≡ touches_by true address size
unfolding touches_of
touches-Write effect address size is = ap (λ e. touches_of e address size) is

pub touches-Modify : (effect : Effect) (address size : ℕ) → effect ≡ Modify → touches_of effect address size ≡ touches_by false address size ++ touches_by true address size
unfolding touches_of
touches-Modify effect address size is = ap (λ e. touches_of e address size) is

pub added_same : (set new : WorkingSetView) (xs ys : List Touch) → ys ≡ xs → AddsFront set new xs → AddsFront set new ys
added_same set new xs ys same added = subst (AddsFront set new) (sym same) added

-- what was there stays, whether all of the touches were added or a front of them
pub added_longer : {T E : Type 0} (r : Result T E) (old new : WorkingSetView) (touches : List Touch) → OnOk r (new ≡ touched_all old touches) → OnErr r (AddsFront old new touches) → IsLonger old new
added_longer (Ok x) old new touches all front = subst (IsLonger old) (sym all) (touched_all-longer old touches)
added_longer (Err e) old new touches all front = subst (IsLonger old) (sym front.1) (touched_all-longer old (take front.0 touches))

-- another interval begins: the marks of what was kept were cleared
pub sound_none : (pages : List ℕ) (old passed new : List Mark) (kept listed none : List RankedTouch) (read written more_read more_written : RecentPages)
    → IsSound pages old kept read written → passed ≡ old → listed ≡ kept → length new ≡ length passed
    → ((rank : ℕ) → mark_at new rank ≡ (if list_any (λ (t : RankedTouch). t.rank == rank) listed then Untouched else mark_at passed rank)) → none ≡ []
    → ((place : ℕ) → recent_at more_read place ≡ 0xffff_ffff_ffff_ffff) → ((place : ℕ) → recent_at more_written place ≡ 0xffff_ffff_ffff_ffff)
    → IsSound pages new none more_read more_written
sound_none pages old passed new kept listed none read written more_read more_written sound passed_is listed_is len clears is no_read no_written =
    let room = sound.marks_are.room in
    let whole : length new ≡ length old = len ∙ ap length passed_is in
    let cleared_old : (rank : ℕ) → mark_at new rank ≡ (if list_any (λ (t : RankedTouch). t.rank == rank) kept then Untouched else mark_at old rank) =
    λ rank. clears rank ∙ ap (λ l. if list_any (λ (t : RankedTouch). t.rank == rank) l then Untouched else mark_at passed rank) listed_is
    ∙ ap (λ l. if list_any (λ (t : RankedTouch). t.rank == rank) kept then Untouched else mark_at l rank) passed_is in
    record {
      marks_are = AreMarks-none pages new none is (omega arith) (cleared pages old new kept sound.marks_are cleared_old);
      read_are = AreRecent-none pages none false more_read no_read;
      written_are = AreRecent-none pages none true more_written no_written;
    }

-- what is known of the recent pages, of the whole set
pub known : (effect : Effect) (pages : List ℕ) (kept : List RankedTouch) (now : WorkingSetView) (writes : Bool) (recent : RecentPages) (place page : ℕ) (result : Bool)
    → set_of pages kept ≡ now → AreRecent pages kept writes recent → result ≡ (recent_at recent place == page) → page < 2 ^ 52 → writes_of effect ≡ writes → result ≡ true
    → is_covered now.kept (rank_of now.pages page) (writes_of effect) ≡ true
known effect pages kept now writes recent place page result view are is small writes_is true_is =
    ap (λ (s : WorkingSetView). is_covered s.kept (rank_of s.pages page) (writes_of effect)) (sym view)
    ∙ ap (is_covered kept (rank_of pages page)) writes_is
    ∙ recent_covered pages kept writes recent place page are (sym is ∙ true_is) small
