-- What the marks of pages, and the pages touched last, keep true.
use Rattle.std.proofs.Common.{◌≡◌, ◌≢◌, ◌⊎◌, ℕ, suc, ◌+◌, ◌%◌, ◌<◌, ◌≤◌, ◌==◌, ◌&&◌, ◌||◌, Bool, true, false, not, List, [], ◌∷◌, ◌++◌, length, get_or, set, take, replicate, All, refl, sym, ap, subst, ◌∙◌, inl, inr, arith, if◌then◌else◌, eq-eqb}
use Rattle.std.proofs.Math.Bool.{or-true}
use Rattle.std.proofs.lemmas.Bool.{cases_lt, eqb-true}
use Rattle.std.proofs.lemmas.Bool.Decides.{eqb_tells}
use Rattle.std.proofs.lemmas.List.{get_or-replicate, get_or-set_other, get_or-set_same, get_or_past, length-set, length-replicate, set_past}
use Rattle.std.proofs.lemmas.List.Elements.{All-push}
use Rattle.std.proofs.lemmas.List.Folds.{list_any-append, list_any_more}
use Rattle.std.specs.List.{list_any}
use Rattle.vm_import.specs.declared.marks.Mark.{Mark}
use Rattle.vm_import.specs.declared.marks.Mark.TheVariants.{Untouched, Read, Written}
use Rattle.vm_import.specs.declared.recent.RecentPages.{RecentPages}
use Rattle.vm_import.specs.declared.touch.RankedTouch.{RankedTouch}
use Rattle.vm_import.specs.Kept.{rank_of}
use Rattle.vm_import.specs.Marks.{AreMarks, mark_at, mark_by, mark_covers, mark_of}
use Rattle.vm_import.specs.Recent.{AreRecent, IsRecent, recent_at, with_recent}
use Rattle.vm_import.specs.SetSteps.{is_covered, with_page}
use Rattle.vm_import.specs.WorkingSets.{IsWithin}
use Rattle.vm_import.proofs.FirstTouchLemmas.{list_any-implied}
use Rattle.vm_import.proofs.RankLemmas.{length-with_page, rank_with_page, there_within}

found_within : (here so rest : Bool) (first rank pages : ℕ) → (here ≡ true → first ≡ rank) → first < pages → (rest ≡ true → rank < pages) → ((here && so) || rest) ≡ true → rank < pages
found_within true so rest first rank pages same less behind covered = let e = same refl in omega arith
found_within false so rest first rank pages same less behind covered = behind covered

pub refuted : (w r : Bool) → (w ≡ true → r ≡ true) → r ≡ false → w ≡ false
refuted true r implied is_r = sym (implied refl) ∙ is_r
refuted false r implied is_r = refl

first_of_both : (a b : Bool) → (a && b) ≡ true → a ≡ true
first_of_both true b h = refl
first_of_both false b h = absurd (cc)

-- what covers a write covers a read
pub covers_read : (kept : List RankedTouch) (rank : ℕ) → is_covered kept rank true ≡ true → is_covered kept rank false ≡ true
covers_read kept rank h =
    list_any-implied (λ (t : RankedTouch). (t.rank == rank) && (t.writes || false)) (λ (t : RankedTouch). (t.rank == rank) && (t.writes || true))
    (λ t here. weaker (t.rank == rank) t.writes here) kept h
  where
    weaker : (a b : Bool) → (a && (b || false)) ≡ true → (a && (b || true)) ≡ true
    weaker true b h = or-true b
    weaker false b h = h

-- what a mark covers is what the touches that were kept cover
pub mark_covers-is : (kept : List RankedTouch) (rank : ℕ) (writes : Bool) → mark_covers (mark_of kept rank) writes ≡ is_covered kept rank writes
mark_covers-is kept rank writes = by (is_covered kept rank true) (is_covered kept rank false) writes (covers_read kept rank) refl refl
  where
    by : (w r writes : Bool) → (w ≡ true → r ≡ true) → is_covered kept rank true ≡ w → is_covered kept rank false ≡ r
        → mark_covers (if w then Written else if r then Read else Untouched) writes ≡ is_covered kept rank writes
    by true r true implied is_w is_r = sym is_w
    by true r false implied is_w is_r = sym (implied refl) ∙ sym is_r
    by false true true implied is_w is_r = sym is_w
    by false true false implied is_w is_r = sym is_r
    by false false true implied is_w is_r = sym is_w
    by false false false implied is_w is_r = sym is_r

is_covered-more : (kept : List RankedTouch) (t : RankedTouch) (rank : ℕ) (writes : Bool)
    → is_covered (kept ++ t ∷ []) rank writes ≡ (is_covered kept rank writes || (((t.rank == rank) && (t.writes || not writes)) || false))
is_covered-more kept t rank writes = list_any-append (λ (t : RankedTouch). (t.rank == rank) && (t.writes || not writes)) kept (t ∷ [])

or-false : (b : Bool) → (b || false) ≡ b
or-false true = refl
or-false false = refl

-- the mark of the page of a touch that is kept
mark_of-same : (kept : List RankedTouch) (t : RankedTouch) → is_covered kept t.rank t.writes ≡ false → mark_of (kept ++ t ∷ []) t.rank ≡ mark_by t.writes
mark_of-same kept t uncovered = by t.writes refl
  where
    here : (t.rank == t.rank) ≡ true
    here = eq-eqb t.rank t.rank refl

    is : (writes : Bool) → is_covered (kept ++ t ∷ []) t.rank writes ≡ (is_covered kept t.rank writes || ((t.writes || not writes) || false))
    is writes = is_covered-more kept t t.rank writes ∙ ap (λ c. is_covered kept t.rank writes || ((c && (t.writes || not writes)) || false)) here

    by : (w : Bool) → t.writes ≡ w → mark_of (kept ++ t ∷ []) t.rank ≡ mark_by w
    by true e =
        let whole : is_covered (kept ++ t ∷ []) t.rank true ≡ true = is true ∙ ap (λ c. is_covered kept t.rank true || ((c || false) || false)) e ∙ or-true (is_covered kept t.rank true) in
        ap (λ c. if c then Written else if is_covered (kept ++ t ∷ []) t.rank false then Read else Untouched) whole
    by false e =
        let no_read : is_covered kept t.rank false ≡ false = ap (is_covered kept t.rank) (sym e) ∙ uncovered in
        let no_write : is_covered kept t.rank true ≡ false = refuted (is_covered kept t.rank true) (is_covered kept t.rank false) (covers_read kept t.rank) no_read in
        let whole : is_covered (kept ++ t ∷ []) t.rank true ≡ false = is true ∙ ap (λ c. c || ((t.writes || false) || false)) no_write ∙ ap (λ c. (c || false) || false) e in
        let read : is_covered (kept ++ t ∷ []) t.rank false ≡ true = is false ∙ ap (λ c. c || ((t.writes || true) || false)) no_read ∙ ap (λ c. (c || true) || false) e in
        ap (λ c. if c then Written else if is_covered (kept ++ t ∷ []) t.rank false then Read else Untouched) whole ∙ ap (λ c. if c then Read else Untouched) read

-- and of any other page
mark_of-other : (kept : List RankedTouch) (t : RankedTouch) (rank : ℕ) → (t.rank == rank) ≡ false → mark_of (kept ++ t ∷ []) rank ≡ mark_of kept rank
mark_of-other kept t rank other =
    let is : (writes : Bool) → is_covered (kept ++ t ∷ []) rank writes ≡ is_covered kept rank writes =
    λ writes. is_covered-more kept t rank writes ∙ ap (λ c. is_covered kept rank writes || ((c && (t.writes || not writes)) || false)) other ∙ or-false (is_covered kept rank writes) in
    ap (λ c. if c then Written else if is_covered (kept ++ t ∷ []) rank false then Read else Untouched) (is true)
    ∙ ap (λ c. if is_covered kept rank true then Written else if c then Read else Untouched) (is false)

-- ---- marks

IsWithin-more : (few many : ℕ) → few ≤ many → (t : RankedTouch) → IsWithin few t → IsWithin many t
IsWithin-more few many h t within = let rank = within.rank in record { rank = omega arith; offset = within.offset }

-- room for more marks, and perhaps one more page
pub AreMarks-page : (pages : List ℕ) (page : ℕ) (old new : List Mark) (kept : List RankedTouch) → AreMarks pages old kept
    → length pages < length new → ((rank : ℕ) → mark_at new rank ≡ mark_at old rank) → AreMarks (with_page pages page) new kept
AreMarks-page pages page old new kept are room same =
    let more = length-with_page pages page in
    record {
      room = omega (arith, more.1);
      within = λ k d h. IsWithin-more (length pages) (length (with_page pages page)) more.0 (get_or kept k d) (are.within k d h);
      marked = λ rank. same rank ∙ are.marked rank;
    }

-- a touch is kept that none covered, and its page is marked
pub AreMarks-keep : (pages : List ℕ) (marks : List Mark) (kept : List RankedTouch) (t : RankedTouch) → AreMarks pages marks kept
    → IsWithin (length pages) t → is_covered kept t.rank t.writes ≡ false → AreMarks pages (set marks t.rank (mark_by t.writes)) (kept ++ t ∷ [])
AreMarks-keep pages marks kept t are within uncovered =
    let room = are.room in
    let rank = within.rank in
    record {
      room = omega (arith, length-set marks t.rank (mark_by t.writes));
      within = All-push (IsWithin (length pages)) kept t are.within within;
      marked = λ r. at r (eqb_tells t.rank r) (omega arith);
    }
  where
    at : (r : ℕ) → (((t.rank == r) ≡ true) × (t.rank ≡ r)) ⊎ (((t.rank == r) ≡ false) × (t.rank ≢ r)) → t.rank < length marks
        → mark_at (set marks t.rank (mark_by t.writes)) r ≡ mark_of (kept ++ t ∷ []) r
    at r (inl h) room = subst (λ r. mark_at (set marks t.rank (mark_by t.writes)) r ≡ mark_of (kept ++ t ∷ []) r) h.1
        (get_or-set_same marks t.rank (mark_by t.writes) Untouched room ∙ sym (mark_of-same kept t uncovered))
    at r (inr h) room = get_or-set_other marks t.rank r (mark_by t.writes) Untouched (λ e. h.1 (sym e)) ∙ are.marked r ∙ sym (mark_of-other kept t r h.0)

-- nothing is kept, and no page is marked
pub AreMarks-none : (pages : List ℕ) (marks : List Mark) (kept : List RankedTouch) → kept ≡ [] → length pages ≤ length marks
    → ((rank : ℕ) → mark_at marks rank ≡ Untouched) → AreMarks pages marks kept
AreMarks-none pages marks kept none room clear = subst (AreMarks pages marks) (sym none) (record { room = room; within = λ k d h. absurd (omega arith); marked = clear })

-- the page of one more touch is cleared
pub clears_more : (start marks : List Mark) (touches : List RankedTouch) (i : ℕ) (d : RankedTouch) → i < length touches → (get_or touches i d).rank < length marks
    → ((rank : ℕ) → mark_at marks rank ≡ (if list_any (λ (u : RankedTouch). u.rank == rank) (take i touches) then Untouched else mark_at start rank))
    → (rank : ℕ) → mark_at (set marks (get_or touches i d).rank Untouched) rank ≡ (if list_any (λ (u : RankedTouch). u.rank == rank) (take (i + 1) touches) then Untouched else mark_at start rank)
clears_more start marks touches i d inside room before rank = by (eqb_tells (get_or touches i d).rank rank)
  where
    more : list_any (λ (u : RankedTouch). u.rank == rank) (take (i + 1) touches) ≡ (list_any (λ (u : RankedTouch). u.rank == rank) (take i touches) || ((get_or touches i d).rank == rank))
    more = list_any_more (λ (u : RankedTouch). u.rank == rank) touches i d inside

    by : ((((get_or touches i d).rank == rank) ≡ true) × ((get_or touches i d).rank ≡ rank)) ⊎ ((((get_or touches i d).rank == rank) ≡ false) × ((get_or touches i d).rank ≢ rank))
        → mark_at (set marks (get_or touches i d).rank Untouched) rank ≡ (if list_any (λ (u : RankedTouch). u.rank == rank) (take (i + 1) touches) then Untouched else mark_at start rank)
    by (inl h) = subst (λ r. mark_at (set marks r Untouched) rank ≡ Untouched) (sym h.1) (get_or-set_same marks rank Untouched Untouched (subst (λ r. r < length marks) h.1 room))
        ∙ sym (ap (λ c. if c then Untouched else mark_at start rank) (more ∙ ap (λ c. list_any (λ (u : RankedTouch). u.rank == rank) (take i touches) || c) h.0
        ∙ or-true (list_any (λ (u : RankedTouch). u.rank == rank) (take i touches))))
    by (inr h) = get_or-set_other marks (get_or touches i d).rank rank Untouched Untouched (λ e. h.1 (sym e)) ∙ before rank
        ∙ sym (ap (λ c. if c then Untouched else mark_at start rank) (more ∙ ap (λ c. list_any (λ (u : RankedTouch). u.rank == rank) (take i touches) || c) h.0
        ∙ or-false (list_any (λ (u : RankedTouch). u.rank == rank) (take i touches))))

-- once the pages of all that was kept are cleared, none is marked
pub cleared : (pages : List ℕ) (old new : List Mark) (kept : List RankedTouch) → AreMarks pages old kept
    → ((rank : ℕ) → mark_at new rank ≡ (if list_any (λ (t : RankedTouch). t.rank == rank) kept then Untouched else mark_at old rank))
    → (rank : ℕ) → mark_at new rank ≡ Untouched
cleared pages old new kept are is rank = is rank ∙ by (list_any (λ (t : RankedTouch). t.rank == rank) kept) refl
  where
    none : (writes : Bool) → list_any (λ (t : RankedTouch). t.rank == rank) kept ≡ false → is_covered kept rank writes ≡ false
    none writes lacks = refuted (is_covered kept rank writes) (list_any (λ (t : RankedTouch). t.rank == rank) kept)
        (list_any-implied (λ (t : RankedTouch). (t.rank == rank) && (t.writes || not writes)) (λ (t : RankedTouch). t.rank == rank)
        (λ t here. first_of_both (t.rank == rank) (t.writes || not writes) here) kept) lacks

    by : (b : Bool) → list_any (λ (t : RankedTouch). t.rank == rank) kept ≡ b → (if b then Untouched else mark_at old rank) ≡ Untouched
    by true h = refl
    by false h = are.marked rank ∙ ap (λ c. if c then Written else if is_covered kept rank false then Read else Untouched) (none true h)
        ∙ ap (λ c. if c then Read else Untouched) (none false h)

-- ---- the pages touched last

-- what is covered is of a page that a touch was kept of
pub rank_covered : (kept : List RankedTouch) (rank : ℕ) (writes : Bool) (pages : ℕ) → All (IsWithin pages) kept → is_covered kept rank writes ≡ true → rank < pages
rank_covered [] rank writes pages within covered = absurd (cc)
rank_covered (t ∷ kept) rank writes pages within covered =
    found_within (t.rank == rank) (t.writes || not writes) (is_covered kept rank writes) t.rank rank pages (eqb-true t.rank rank) (within 0 t (omega arith)).rank
    (rank_covered kept rank writes pages (λ k d h. within (suc k) d (omega arith))) covered

-- with one more page, what was covered is covered
pub covered_page : (pages : List ℕ) (more : ℕ) (kept : List RankedTouch) (writes : Bool) (page : ℕ) → All (IsWithin (length pages)) kept
    → is_covered kept (rank_of pages page) writes ≡ true → is_covered kept (rank_of (with_page pages more) page) writes ≡ true
covered_page pages more kept writes page within covered =
    let there = there_within pages page (rank_covered kept (rank_of pages page) writes (length pages) within covered) in
    ap (λ r. is_covered kept r writes) (rank_with_page pages more page there) ∙ covered

pub AreRecent-page : (pages : List ℕ) (more : ℕ) (kept : List RankedTouch) (writes : Bool) (recent : RecentPages) → All (IsWithin (length pages)) kept
    → AreRecent pages kept writes recent → AreRecent (with_page pages more) kept writes recent
AreRecent-page pages more kept writes recent within are place small = covered_page pages more kept writes (recent_at recent place) within (are place small)

-- with one more touch, what was covered is covered
pub AreRecent-keep : (pages : List ℕ) (kept : List RankedTouch) (t : RankedTouch) (writes : Bool) (recent : RecentPages)
    → AreRecent pages kept writes recent → AreRecent pages (kept ++ t ∷ []) writes recent
AreRecent-keep pages kept t writes recent are place small =
    let rank = rank_of pages (recent_at recent place) in
    is_covered-more kept t rank writes ∙ ap (λ c. c || (((t.rank == rank) && (t.writes || not writes)) || false)) (are place small)

-- a page whose touches are covered is noted
pub AreRecent-note : (pages : List ℕ) (kept : List RankedTouch) (writes : Bool) (old new : RecentPages) (page : ℕ) → AreRecent pages kept writes old
    → new ≡ with_recent old page → is_covered kept (rank_of pages page) writes ≡ true → AreRecent pages kept writes new
AreRecent-note pages kept writes old new page are is covered = subst (AreRecent pages kept writes) (sym is) (λ place. at place (eqb_tells place (page % 256)))
  where
    at : (place : ℕ) → (((place == page % 256) ≡ true) × (place ≡ page % 256)) ⊎ (((place == page % 256) ≡ false) × (place ≢ page % 256))
        → IsRecent pages kept writes (recent_at (with_recent old page) place)
    at place (inl h) = here (cases_lt place (length old.pages))
      where
        here : (place < length old.pages) ⊎ (length old.pages ≤ place) → IsRecent pages kept writes (recent_at (with_recent old page) place)
        here (inl within) = subst (λ p. IsRecent pages kept writes (get_or (set old.pages p page) place 0xffff_ffff_ffff_ffff)) h.1
            (subst (IsRecent pages kept writes) (sym (get_or-set_same old.pages place page 0xffff_ffff_ffff_ffff within)) (λ _. covered))
        here (inr past) = subst (λ p. IsRecent pages kept writes (get_or (set old.pages p page) place 0xffff_ffff_ffff_ffff)) h.1
            (subst (IsRecent pages kept writes) (sym (ap (λ l. get_or l place 0xffff_ffff_ffff_ffff) (set_past old.pages place page past))) (are place))
    at place (inr h) = subst (IsRecent pages kept writes) (sym (get_or-set_other old.pages (page % 256) place page 0xffff_ffff_ffff_ffff h.1)) (are place)

-- where no page is noted
pub AreRecent-none : (pages : List ℕ) (kept : List RankedTouch) (writes : Bool) (recent : RecentPages)
    → ((place : ℕ) → recent_at recent place ≡ 0xffff_ffff_ffff_ffff) → AreRecent pages kept writes recent
AreRecent-none pages kept writes recent none place = subst (IsRecent pages kept writes) (sym (none place)) (λ small. absurd (omega arith))

-- one number everywhere, and past the end too
pub replicate_at : (n a i : ℕ) → get_or (replicate n a) i a ≡ a
replicate_at n a i = elim (cases_lt i n) [
  | inl within ↦ get_or-replicate n i a a within
  | inr past ↦ get_or_past (replicate n a) i a (omega (arith, length-replicate n a))
]
