-- Each step of an import is on one of its pages.
use Rattle.std.proofs.Common.{◌≡◌, ℕ, zero, suc, ◌+◌, ◌/◌, ◌%◌, ◌<◌, ◌≤◌, ◌==◌, ◌||◌, ◌&&◌, nat_lt, ◌⊎◌, inl, inr, Bool, true, false, not, cond, if◌then◌else◌, List, [], ◌∷◌, ◌++◌, drop, length, map, take, refl, sym, ap, ◌∙◌, arith, append_assoc, eq-eqb}
use Rattle.std.proofs.lemmas.Bool.{eqb-true}
use Rattle.std.proofs.lemmas.List.{length-map, take-append-drop}
use Rattle.std.proofs.lemmas.List.Folds.{list_any-append}
use Rattle.std.specs.List.{list_any}
use Rattle.vm_import.specs.Guests.{guest_of}
use Rattle.vm_import.specs.Intervals.{cut, intervals_of, kept_behind, kept_in, rounded_up}
use Rattle.vm_import.specs.Settings.{Settings}
use Rattle.vm_import.specs.Touched.{effect_of, is_fetch, touched_by, touches_in}
use Rattle.vm_import.proofs.IntervalLemmas.{touches_in-append}
use Rattle.vm_import.specs.declared.access.Access.{Access}
use Rattle.vm_import.specs.Kept.{covers, first_touches, is_of_page, rank_of, ranked, uncovered, without_earlier}
use Rattle.vm_import.specs.Touches.{touch, touches_by, touches_of}
use Rattle.vm_import.specs.WorkingSets.{IsWithin, working_set}
use Rattle.vm_import.specs.declared.touch.Effect.{Effect}
use Rattle.vm_import.specs.declared.touch.Effect.TheVariants.{Modify, Read, Write}
use Rattle.vm_import.specs.declared.touch.Touch.{Touch}

-- P holds of each element
abbrev pub Each : {A : Type 0} → (A → Type 0) → List A → Type 0
Each P [] = Unit {0}
Each P (x ∷ xs) = P x × Each P xs

Each-implied : {A : Type 0} (P Q : A → Type 0) → ((x : A) → P x → Q x) → (xs : List A) → Each P xs → Each Q xs
Each-implied P Q so [] h = tt
Each-implied P Q so (x ∷ xs) h = (so x h.0, Each-implied P Q so xs h.1)

Each-map : {A B : Type 0} (P : B → Type 0) (f : A → B) (xs : List A) → Each (λ x. P (f x)) xs → Each P (map f xs)
Each-map P f [] h = tt
Each-map P f (x ∷ xs) h = (h.0, Each-map P f xs h.1)

Each-append : {A : Type 0} (P : A → Type 0) (xs ys : List A) → Each P xs → Each P ys → Each P (xs ++ ys)
Each-append P [] ys h k = k
Each-append P (x ∷ xs) ys h k = (h.0, Each-append P xs ys h.1 k)

Each-both : {A : Type 0} (P Q R : A → Type 0) → ((x : A) → P x → Q x → R x) → (xs : List A) → Each P xs → Each Q xs → Each R xs
Each-both P Q R so [] h k = tt
Each-both P Q R so (x ∷ xs) h k = (so x h.0 k.0, Each-both P Q R so xs h.1 k.1)

-- ---- ranks

abbrev IsThere : List ℕ → ℕ → Type 0
IsThere pages page = list_any (λ p. page == p) pages ≡ true

within_more : (here rest : Bool) (rank len : ℕ) → (rest ≡ true → rank < len) → (here || rest) ≡ true → cond (not here) (1 + rank) 0 < suc len
within_more true rest rank len h there = omega arith
within_more false rest rank len h there = let less = h there in omega arith

-- a page of the list has its rank below their number
rank_within : (pages : List ℕ) (page : ℕ) → IsThere pages page → rank_of pages page < length pages
rank_within [] page there = absurd (cc)
rank_within (p ∷ pages) page there =
    within_more (page == p) (list_any (λ q. page == q) pages) (rank_of pages page) (length pages) (rank_within pages page) there

-- ---- pages that are touched

or-left : (a b : Bool) → a ≡ true → (a || b) ≡ true
or-left a b is = rw is refl

or-right : (a b : Bool) → b ≡ true → (a || b) ≡ true
or-right true b is = refl
or-right false b is = is

or-either : (a b : Bool) → (a || b) ≡ true → (a ≡ true) ⊎ (b ≡ true)
or-either true b is = inl refl
or-either false b is = inr is

abbrev pages_of : List Touch → List ℕ
pages_of touches = map (λ (t : Touch). t.page) touches

-- an earlier touch is of the page, or one of these is
abbrev IsFound : (before kept : List Touch) → Touch → Type 0
IsFound before kept t = (list_any (λ e. is_of_page e t) before ≡ true) ⊎ IsThere (pages_of kept) t.page

module _ (before : List Touch) (t : Touch) (rest : List Touch) where
  found-here : (b : Bool) → list_any (λ e. is_of_page e t) before ≡ b → IsFound before (if b then rest else t ∷ rest) t
  found-here true is = inl is
  found-here false is = inr (or-left (t.page == t.page) _ (eq-eqb t.page t.page refl))

  there-more : (b : Bool) (page : ℕ) → IsThere (pages_of rest) page → IsThere (pages_of (if b then rest else t ∷ rest)) page
  there-more true page there = there
  there-more false page there = or-right (page == t.page) _ there

  -- another touch of the page of this one
  found-same : (b : Bool) (u : Touch) → list_any (λ e. is_of_page e t) before ≡ b → u.page ≡ t.page
      → IsFound before (if b then rest else t ∷ rest) u
  found-same true u is page = inl (ap (λ (p : ℕ). list_any (λ (e : Touch). p == e.page) before) page ∙ is)
  found-same false u is page = inr (or-left (u.page == t.page) _ (eq-eqb u.page t.page page))

  found-later : (b : Bool) → list_any (λ e. is_of_page e t) before ≡ b → (u : Touch) → IsFound (before ++ t ∷ []) rest u
      → IsFound before (if b then rest else t ∷ rest) u
  found-later b is u (inr there) = inr (there-more b u.page there)
  found-later b is u (inl earlier) =
      elim (or-either (list_any (λ e. is_of_page e u) before) _ (sym (list_any-append (λ e. is_of_page e u) before (t ∷ [])) ∙ earlier)) [
        | inl front ↦ inl front
        | inr one ↦ elim (or-either (u.page == t.page) false one) [
          | inl page ↦ found-same b u is (eqb-true u.page t.page page)
          | inr never ↦ absurd (cc)
        ]
      ]

-- each touch is of a page that an earlier one is of, or that is among those of the touches that stay
found : (before touches : List Touch) → Each (IsFound before (without_earlier is_of_page before touches)) touches
found before [] = tt
found before (t ∷ touches) =
    let rest = without_earlier is_of_page (before ++ t ∷ []) touches in
    let first = list_any (λ e. is_of_page e t) before in (
      found-here before t rest first refl,
      Each-implied (IsFound (before ++ t ∷ []) rest) (IsFound before (if first then rest else t ∷ rest)) (found-later before t rest first refl)
          touches (found (before ++ t ∷ []) touches),
    )

-- a touch of the list is of one of its pages
touched : (touches : List Touch) → Each (λ t. IsThere (first_touches touches) t.page) touches
touched touches = Each-implied (IsFound [] (without_earlier is_of_page [] touches)) (λ t. IsThere (first_touches touches) t.page) only touches (found [] touches)
  where
    only : (t : Touch) → IsFound [] (without_earlier is_of_page [] touches) t → IsThere (first_touches touches) t.page
    only t (inl never) = absurd (cc)
    only t (inr there) = there

Each-without : (P : Touch → Type 0) (test : Touch → Touch → Bool) (before touches : List Touch) → Each P touches
    → Each P (without_earlier test before touches)
Each-without P test before [] h = tt
Each-without P test before (t ∷ touches) h =
    go (list_any (λ e. test e t) before) (Each-without P test (before ++ t ∷ []) touches h.1)
  where
    go : (b : Bool) → Each P (without_earlier test (before ++ t ∷ []) touches)
        → Each P (if b then without_earlier test (before ++ t ∷ []) touches else t ∷ without_earlier test (before ++ t ∷ []) touches)
    go true rest = rest
    go false rest = (h.0, rest)

Each-behind : (P : Touch → Type 0) (xs ys : List Touch) → Each P (xs ++ ys) → Each P ys
Each-behind P [] ys h = h
Each-behind P (x ∷ xs) ys h = Each-behind P xs ys h.1

-- more touches are of no fewer pages
more-pages : (before xs ys : List Touch)
    → length (without_earlier is_of_page before xs) ≤ length (without_earlier is_of_page before (xs ++ ys))
more-pages before [] ys = omega arith
more-pages before (t ∷ xs) ys = go (list_any (λ e. is_of_page e t) before) _ _ (more-pages (before ++ t ∷ []) xs ys)
  where
    go : (b : Bool) (few many : List Touch) → length few ≤ length many → length (if b then few else t ∷ few) ≤ length (if b then many else t ∷ many)
    go true few many h = h
    go false few many h = omega arith

first_touches-grow : (xs ys : List Touch) → length (first_touches xs) ≤ length (first_touches (xs ++ ys))
first_touches-grow xs ys =
    let few = length-map (without_earlier is_of_page [] xs) (λ (t : Touch). t.page) in
    let many = length-map (without_earlier is_of_page [] (xs ++ ys)) (λ (t : Touch). t.page) in
    omega (arith, more-pages [] xs ys)

-- ---- what an interval keeps

module _ (has_code : Bool) where
  -- the touches of intervals, in order
  abbrev touches_all : List (List Access) → List Touch
  touches_all [] = []
  touches_all (interval ∷ intervals) = touches_in has_code interval ++ touches_all intervals

  -- those of the intervals that accesses are cut into are the first of theirs
  cut-front : (lines count : ℕ) (accesses : List Access)
      → (others : List Touch) × (touches_in has_code accesses ≡ touches_all (cut lines count accesses) ++ others)
  cut-front lines zero accesses = (touches_in has_code accesses, refl)
  cut-front lines (suc count) accesses =
      let first = touches_in has_code (take lines accesses) in
      let left = cut-front lines count (drop lines accesses) in (
        left.0,
        ap (touches_in has_code) (sym (take-append-drop lines accesses))
            ∙ touches_in-append has_code (take lines accesses) (drop lines accesses)
            ∙ ap (λ (l : List Touch). first ++ l) left.1
            ∙ sym (append_assoc first (touches_all (cut lines count (drop lines accesses))) left.0),
      )

  -- a touch begins at a byte of its page
  abbrev IsInPage : Touch → Type 0
  IsInPage t = t.offset < 4096

  by-page : (writes : Bool) (address size : ℕ) → Each IsInPage (touches_by writes address size)
  by-page writes address size = (omega arith, go (nat_lt 4096 (address % 4096 + size)))
    where
      go : (b : Bool) → Each IsInPage (if b then touch (address / 4096 + 1) 0 writes ∷ [] else [])
      go true = (omega arith, tt)
      go false = tt

  of-page : (effect : Effect) (address size : ℕ) → Each IsInPage (touches_of effect address size)
  unfolding touches_of
  of-page Read address size = by-page false address size
  of-page Write address size = by-page true address size
  of-page Modify address size =
      Each-append IsInPage (touches_by false address size) (touches_by true address size) (by-page false address size) (by-page true address size)

  in-page : (accesses : List Access) → Each IsInPage (touches_in has_code accesses)
  in-page [] = tt
  in-page (access ∷ accesses) =
      Each-append IsInPage (touched_by has_code access) (touches_in has_code accesses) (go (is_fetch access.kind && not has_code)) (in-page accesses)
    where
      go : (b : Bool) → Each IsInPage (if b then [] else touches_of (effect_of access.kind) access.address access.size)
      go true = tt
      go false = of-page (effect_of access.kind) access.address access.size

  module _ (size : ℕ) where
    one-kept : (before touches : List Touch) → length (first_touches (before ++ touches)) ≤ size → Each IsInPage touches
        → Each (IsWithin size) (working_set before touches).kept
    unfolding working_set
    one-kept before touches few inside =
        let pages = first_touches (before ++ touches) in
        let there = Each-behind (λ t. IsThere pages t.page) before touches (touched (before ++ touches)) in
        Each-map (IsWithin size) (ranked pages) (uncovered touches)
        (Each-without (λ t. IsWithin size (ranked pages t)) covers [] touches
        (Each-both (λ t. IsThere pages t.page) IsInPage (λ t. IsWithin size (ranked pages t))
        (λ t is offset. record { rank = (let low = rank_within pages t.page is in omega arith); offset = offset }) touches there inside))

    -- what intervals keep is of as many pages as they touch
    kept-within : (before : List Touch) (intervals : List (List Access)) → length (first_touches (before ++ touches_all intervals)) ≤ size
        → Each (Each (IsWithin size)) (kept_behind has_code before intervals)
    kept-within before [] few = tt
    kept-within before (interval ∷ intervals) few =
        let touches = touches_in has_code interval in
        let others = touches_all intervals in
        let regroup : (before ++ touches) ++ others ≡ before ++ (touches ++ others) = append_assoc before touches others in
        let here : length (first_touches (before ++ touches)) ≤ size =
        omega (arith, few, first_touches-grow (before ++ touches) others, ap (λ (l : List Touch). length (first_touches l)) regroup) in (
          one-kept before touches here (in-page interval),
          kept-within (before ++ touches) intervals (omega (arith, few, ap (λ (l : List Touch). length (first_touches l)) regroup)),
        )

-- what is kept of accesses is of the pages of their guest
pub kept-of-guest : (settings : Settings) (accesses : List Access)
    → Each (Each (IsWithin (guest_of settings accesses).size)) (kept_in settings.has_code (intervals_of settings.interval accesses))
unfolding guest_of
kept-of-guest settings accesses =
    let has_code = settings.has_code in
    let count = rounded_up (length accesses) settings.interval in
    let front = cut-front has_code settings.interval count accesses in
    let intervals = cut settings.interval count accesses in
    let size = length (first_touches (touches_in has_code accesses)) in
    let grows = first_touches-grow (touches_all has_code intervals) front.0 in
    let few : length (first_touches (touches_all has_code intervals)) ≤ size =
    omega (arith, grows, ap (λ (l : List Touch). length (first_touches l)) front.1) in
    kept-within has_code size [] intervals few
