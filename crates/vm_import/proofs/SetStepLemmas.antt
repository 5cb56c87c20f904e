-- One more touch, and more touches, of an interval.
use Rattle.std.proofs.Common.{◌≡◌, ℕ, ◌==◌, ◌&&◌, ◌||◌, Bool, true, false, not, List, [], ◌∷◌, ◌++◌, map, refl, sym, ap, subst, ◌∙◌, append_assoc, if◌then◌else◌, eq-eqb}
use Rattle.std.proofs.Math.Bool.{or-true}
use Rattle.std.proofs.lemmas.Bool.{eqb-true}
use Rattle.std.proofs.lemmas.List.{append-nil, map-append}
use Rattle.std.proofs.lemmas.List.Folds.{list_any-append}
use Rattle.std.specs.List.{fold, list_any}
use Rattle.vm_import.specs.declared.touch.Touch.{Touch}
use Rattle.vm_import.specs.declared.touch.RankedTouch.{RankedTouch}
use Rattle.vm_import.specs.Kept.{covers, first_touches, is_of_page, rank_of, ranked, uncovered, without_earlier}
use Rattle.vm_import.specs.SetSteps.{is_covered, touched, touched_all, with_page}
use Rattle.vm_import.specs.WorkingSets.{WorkingSetView, working_set, Begins, Extends, GoesOn}
use Rattle.vm_import.proofs.FirstTouchLemmas.{without_earlier-more, list_any-without_earlier}
use Rattle.vm_import.proofs.RankLemmas.{IsThere, rank_tells, rank_with_page, there_with_page, with_page_there, with_page_front}

-- the fact holds of each element
abbrev pub Each : {A : Type 0} → (A → Type 0) → List A → Type 0
Each P [] = Unit {0}
Each P (x ∷ xs) = P x × Each P xs

Each-implied : {A : Type 0} (P Q : A → Type 0) → ((x : A) → P x → Q x) → (xs : List A) → Each P xs → Each Q xs
Each-implied P Q implies [] each = tt
Each-implied P Q implies (x ∷ xs) each = (implies x each.0, Each-implied P Q implies xs each.1)

map-same : {A B : Type 0} (f g : A → B) (xs : List A) → Each (λ x. f x ≡ g x) xs → map f xs ≡ map g xs
map-same f g [] each = refl
map-same f g (x ∷ xs) each = λ i. each.0 i ∷ map-same f g xs each.1 i

list_any-same : {A : Type 0} (p q : A → Bool) (xs : List A) → Each (λ x. p x ≡ q x) xs → list_any p xs ≡ list_any q xs
list_any-same p q [] each = refl
list_any-same p q (x ∷ xs) each = λ i. each.0 i || list_any-same p q xs each.1 i

pub list_any-map : {A B : Type 0} (p : B → Bool) (f : A → B) (xs : List A) → list_any p (map f xs) ≡ list_any (λ x. p (f x)) xs
list_any-map p f [] = refl
list_any-map p f (x ∷ xs) = ap (λ c. p (f x) || c) (list_any-map p f xs)

Each-if : {A : Type 0} (P : A → Type 0) (b : Bool) (x : A) (xs : List A) → P x → Each P xs → Each P (if b then xs else x ∷ xs)
Each-if P true x xs here rest = rest
Each-if P false x xs here rest = (here, rest)

Each-without_earlier : (P : Touch → Type 0) (test : Touch → Touch → Bool) (before xs : List Touch) → Each P xs → Each P (without_earlier test before xs)
Each-without_earlier P test before [] each = tt
Each-without_earlier P test before (x ∷ xs) each =
    Each-if P (list_any (λ e. test e x) before) x (without_earlier test (before ++ x ∷ []) xs) each.0 (Each-without_earlier P test (before ++ x ∷ []) xs each.1)

-- ---- the two tests

same_page : (a b c : Touch) → is_of_page a b ≡ true → is_of_page b c ≡ true → is_of_page a c ≡ true
same_page a b c ab bc = eq-eqb c.page a.page (eqb-true c.page b.page bc ∙ eqb-true b.page a.page ab)

and_parts : (a b : Bool) → (a && b) ≡ true → (a ≡ true) × (b ≡ true)
and_parts true b h = (refl, h)
and_parts false b h = absurd (cc)

and_made : (a b : Bool) → a ≡ true → b ≡ true → (a && b) ≡ true
and_made a b is_a is_b = ap (λ c. c && b) is_a ∙ is_b

-- as it reads or writes, the first covers the second, and the second the third
as_before : (a b c : Bool) → (a || not b) ≡ true → (b || not c) ≡ true → (a || not c) ≡ true
as_before true b c ab bc = refl
as_before false true c ab bc = absurd (cc)
as_before false false c ab bc = bc

covers_further : (a b c : Touch) → covers a b ≡ true → covers b c ≡ true → covers a c ≡ true
covers_further a b c ab bc =
    let first = and_parts (is_of_page a b) (a.writes || not b.writes) ab in
    let second = and_parts (is_of_page b c) (b.writes || not c.writes) bc in
    and_made (is_of_page a c) (a.writes || not c.writes) (same_page a b c first.0 second.0) (as_before a.writes b.writes c.writes first.1 second.1)

-- ---- pages

-- a page is among the first touches exactly if one of the touches is of it
there_first : (touches : List Touch) (t : Touch) → list_any (λ p. t.page == p) (first_touches touches) ≡ list_any (λ e. is_of_page e t) touches
there_first touches t =
    list_any-map (λ p. t.page == p) (λ (u : Touch). u.page) (without_earlier is_of_page [] touches)
    ∙ list_any-without_earlier is_of_page same_page [] touches t

found : (front touches : List Touch) → Each (λ t. list_any (λ e. is_of_page e t) (front ++ touches) ≡ true) touches
found front [] = tt
found front (t ∷ touches) =
    let here : list_any (λ e. is_of_page e t) (front ++ t ∷ touches) ≡ true = list_any-append (λ e. is_of_page e t) front (t ∷ touches)
    ∙ ap (λ c. list_any (λ e. is_of_page e t) front || (c || list_any (λ e. is_of_page e t) touches)) (eq-eqb t.page t.page refl)
    ∙ or-true (list_any (λ e. is_of_page e t) front) in
    (here, subst (λ all. Each (λ t. list_any (λ e. is_of_page e t) all ≡ true) touches) (append_assoc front (t ∷ []) touches) (found (front ++ t ∷ []) touches))

-- the pages of an interval's touches are among the first touches
pub are_there : (before touches : List Touch) → Each (λ t. IsThere (first_touches (before ++ touches)) t.page) (uncovered touches)
are_there before touches =
    Each-without_earlier (λ t. IsThere (first_touches (before ++ touches)) t.page) covers [] touches
    (Each-implied (λ t. list_any (λ e. is_of_page e t) (before ++ touches) ≡ true) (λ t. IsThere (first_touches (before ++ touches)) t.page)
    (λ t h. there_first (before ++ touches) t ∙ h) touches (found before touches))

pub first_touches-more : (touches : List Touch) (t : Touch) → first_touches (touches ++ t ∷ []) ≡ with_page (first_touches touches) t.page
first_touches-more touches t =
    ap (map page) (without_earlier-more is_of_page [] touches t)
    ∙ map-append page (without_earlier is_of_page [] touches) (if list_any (λ e. is_of_page e t) touches then [] else t ∷ [])
    ∙ cases (list_any (λ e. is_of_page e t) touches)
    ∙ ap (λ c. if c then first_touches touches else first_touches touches ++ t.page ∷ []) (sym (there_first touches t))
  where
    page : Touch → ℕ
    page u = u.page

    cases : (b : Bool) → first_touches touches ++ map page (if b then [] else t ∷ []) ≡ (if b then first_touches touches else first_touches touches ++ t.page ∷ [])
    cases true = append-nil (first_touches touches)
    cases false = refl

-- ---- what is kept

module _ (before touches : List Touch) (t : Touch) where
  -- pages that are there keep their ranks
  ranked_more : map (ranked (with_page (first_touches (before ++ touches)) t.page)) (uncovered touches) ≡ map (ranked (first_touches (before ++ touches))) (uncovered touches)
  ranked_more =
      let pages = first_touches (before ++ touches) in
      map-same (ranked (with_page pages t.page)) (ranked pages) (uncovered touches)
      (Each-implied (λ u. IsThere pages u.page) (λ u. ranked (with_page pages t.page) u ≡ ranked pages u)
      (λ u there i. record { rank = rank_with_page pages t.page u.page there i; offset = u.offset; writes = u.writes }) (uncovered touches) (are_there before touches))

  -- a touch that was kept covers this one exactly if one of the interval does
  is_covered-kept : is_covered (map (ranked (first_touches (before ++ touches))) (uncovered touches)) (rank_of (with_page (first_touches (before ++ touches)) t.page) t.page) t.writes
      ≡ list_any (λ e. covers e t) touches
  is_covered-kept =
      let pages = first_touches (before ++ touches) in
      let more = with_page pages t.page in
      let rank = rank_of more t.page in
      let same : (u : Touch) → IsThere pages u.page → ((rank_of pages u.page == rank) && (u.writes || not t.writes)) ≡ covers u t =
      λ u there. ap (λ r. (r == rank) && (u.writes || not t.writes)) (sym (rank_with_page pages t.page u.page there))
      ∙ ap (λ c. c && (u.writes || not t.writes)) (rank_tells more u.page t.page (there_with_page pages t.page u.page there) (with_page_there pages t.page)) in
      list_any-map (λ (k : RankedTouch). (k.rank == rank) && (k.writes || not t.writes)) (ranked pages) (uncovered touches)
      ∙ list_any-same (λ (u : Touch). (rank_of pages u.page == rank) && (u.writes || not t.writes)) (λ u. covers u t) (uncovered touches)
      (Each-implied (λ u. IsThere pages u.page) (λ u. ((rank_of pages u.page == rank) && (u.writes || not t.writes)) ≡ covers u t) same (uncovered touches) (are_there before touches))
      ∙ list_any-without_earlier covers covers_further [] touches t

  kept_more : map (ranked (with_page (first_touches (before ++ touches)) t.page)) (uncovered (touches ++ t ∷ []))
      ≡ (touched (record { pages = first_touches (before ++ touches); kept = map (ranked (first_touches (before ++ touches))) (uncovered touches) }) t).kept
  kept_more =
      let pages = first_touches (before ++ touches) in
      let more = with_page pages t.page in
      let kept = map (ranked pages) (uncovered touches) in
      let behind : Bool → List Touch = λ c. if c then [] else t ∷ [] in
      let cases : (c : Bool) → kept ++ map (ranked more) (behind c) ≡ (if c then kept else kept ++ ranked more t ∷ []) =
      λ c. elim c as (λ b. kept ++ map (ranked more) (behind b) ≡ (if b then kept else kept ++ ranked more t ∷ [])) [ true ↦ append-nil kept | false ↦ refl ] in
      ap (map (ranked more)) (without_earlier-more covers [] touches t)
      ∙ map-append (ranked more) (uncovered touches) (behind (list_any (λ e. covers e t) touches))
      ∙ ap (λ l. l ++ map (ranked more) (behind (list_any (λ e. covers e t) touches))) ranked_more
      ∙ cases (list_any (λ e. covers e t) touches)
      ∙ ap (λ c. if c then kept else kept ++ ranked more t ∷ []) (sym is_covered-kept)

pub working_set-more : (before touches : List Touch) (t : Touch) → touched (working_set before touches) t ≡ working_set before (touches ++ t ∷ [])
unfolding working_set
working_set-more before touches t =
    let pages : with_page (first_touches (before ++ touches)) t.page ≡ first_touches (before ++ (touches ++ t ∷ [])) =
    sym (first_touches-more (before ++ touches) t) ∙ ap first_touches (append_assoc before touches (t ∷ [])) in
    let kept = sym (kept_more before touches t) ∙ ap (λ l. map (ranked l) (uncovered (touches ++ t ∷ []))) pages in
    λ i. record { pages = pages i; kept = kept i }

-- the working set of more touches is what they make of it one by one
pub working_set-all : (before touches more : List Touch) → touched_all (working_set before touches) more ≡ working_set before (touches ++ more)
unfolding touched_all
working_set-all before touches [] = ap (working_set before) (sym (append-nil touches))
working_set-all before touches (t ∷ more) =
    ap (λ set. fold touched set more) (working_set-more before touches t)
    ∙ working_set-all before (touches ++ t ∷ []) more
    ∙ ap (working_set before) (append_assoc touches (t ∷ []) more)

pub GoesOn-all : (old new : WorkingSetView) (more : List Touch) → new ≡ touched_all old more → GoesOn old new more
GoesOn-all old new more is before touches was = is ∙ ap (λ set. touched_all set more) was ∙ working_set-all before touches more

pub Begins-empty : (old new : WorkingSetView) → new.pages ≡ old.pages → new.kept ≡ [] → Begins old new
unfolding working_set
Begins-empty old new same none before touches was =
    let pages : new.pages ≡ first_touches ((before ++ touches) ++ []) = same ∙ ap (λ (set : WorkingSetView). set.pages) was ∙ ap first_touches (sym (append-nil (before ++ touches))) in
    λ i. record { pages = pages i; kept = none i }

-- ---- what was there stays

Extends-same : {A : Type 0} (old new : List A) → new ≡ old → Extends old new
Extends-same old new same = ([], same ∙ sym (append-nil old))

Extends-further : {A : Type 0} (a b c : List A) → Extends a b → Extends b c → Extends a c
Extends-further a b c first second = (first.0 ++ second.0, second.1 ∙ ap (λ l. l ++ second.0) first.1 ∙ append_assoc a first.0 second.0)

touched_kept : (set : WorkingSetView) (t : Touch) → Extends set.kept (touched set t).kept
touched_kept set t = by (is_covered set.kept (rank_of (with_page set.pages t.page) t.page) t.writes)
  where
    by : (b : Bool) → Extends set.kept (if b then set.kept else set.kept ++ ranked (with_page set.pages t.page) t ∷ [])
    by true = Extends-same set.kept set.kept refl
    by false = (ranked (with_page set.pages t.page) t ∷ [], refl)

-- both parts of the second are longer
pub record IsLonger (old new : WorkingSetView) : Type 0 where
  pub pages : Extends old.pages new.pages
  pub kept : Extends old.kept new.kept

pub touched_all-longer : (set : WorkingSetView) (more : List Touch) → IsLonger set (touched_all set more)
unfolding touched_all
touched_all-longer set [] = record { pages = Extends-same set.pages set.pages refl; kept = Extends-same set.kept set.kept refl }
touched_all-longer set (t ∷ more) =
    let rest = touched_all-longer (touched set t) more in
    record {
      pages = Extends-further set.pages (touched set t).pages (fold touched (touched set t) more).pages (with_page_front set.pages t.page) rest.pages;
      kept = Extends-further set.kept (touched set t).kept (fold touched (touched set t) more).kept (touched_kept set t) rest.kept;
    }
