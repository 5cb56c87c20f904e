-- A map whose entries lie in slots, and an index that finds the slot of a key.
use Rattle.std.proofs.Common.{◌≡◌, ◌≢◌, Bool, true, false, ℕ, zero, suc, ◌+◌, ◌-◌, ◌<◌, ◌≤◌, cond, ◌==◌, List, [], ◌∷◌, ◌++◌, map, length, get_or, set, take, Option, Some, None, slice_get, refl, sym, ap, subst, ◌∙◌, ◌⊎◌, inl, inr, arith}
use Rattle.std.proofs.lemmas.Bool.{eq-eqb, ne_eqb, cond-true, cond-false, cases_eq, cases_lt}
use Rattle.std.proofs.lemmas.Option.{none-some, same_Some, slice_get-map, slice_get_within, slice_get-get_or}
use Rattle.std.proofs.lemmas.List.{take-map, map-set, get_or-set_same, get_or-set_other, length-map, map-append}
use Rattle.std.specs.Option.{option_map, option_and_then, is_some}
use Rattle.std.specs.List.{swap_remove}
use Rattle.std.specs.Ordering.{nat_cmp}
use Rattle.std.specs.Cmp.{nat_cmp_total, unsigned_tied}
use Rattle.std.specs.FinMap.{FinMap, get, find, insert, remove, len, from_entries, get-from_entries, get-insert, get-remove, same_map, nat_cmp-IsAntisymmetric, from_entries_push, len-insert, len-remove}
use Rattle.vm_swap.specs.Slots.{Indexes, pages_of}

-- the bytes of the first entry with this page
abbrev first_at : {V : Type 0} → ℕ → List (ℕ × V) → Option V
first_at q [] = None
first_at q (e ∷ es) = cond (q == e.0) (Some e.1) (first_at q es)

-- the bytes in the slot that the index finds
abbrev pub look_up : {V : Type 0} → List (Option ℕ) → List (ℕ × V) → ℕ → Option V
look_up index es q = option_and_then (λ i. option_map (λ e. e.1) (slice_get es i)) (get_or index q None)

find-first : {V : Type 0} (es : List (ℕ × V)) (q : ℕ) → find nat_cmp q es ≡ first_at q es
find-first [] q = refl
find-first (e ∷ es) q =
    ap (λ b. cond b (Some e.1) (find nat_cmp q es)) (unsigned_tied q e.0) ∙ ap (cond (q == e.0) (Some e.1)) (find-first es q)

first_at-slot : {V : Type 0} (es : List (ℕ × V)) (q i : ℕ) → slice_get (pages_of es) i ≡ Some q → ((j : ℕ) → slice_get (pages_of es) j ≡ Some q → j ≡ i) → first_at q es ≡ option_map (λ e. e.1) (slice_get es i)
first_at-slot [] q i h only = absurd (none-some q h)
first_at-slot (e ∷ es) q zero h only = cond-true _ _ _ (eq-eqb q e.0 (sym (same_Some _ _ h)))
first_at-slot (e ∷ es) q (suc i) h only =
    cond-false _ _ _ (ne_eqb q e.0 (λ same. let z : 0 ≡ suc i = only 0 (ap Some (sym same)) in omega arith))
    ∙ first_at-slot es q i h (λ j g. let z : suc j ≡ suc i = only (suc j) g in omega arith)

first_at-none : {V : Type 0} (es : List (ℕ × V)) (q : ℕ) → ((j : ℕ) → slice_get (pages_of es) j ≡ Some q → ⊥) → first_at q es ≡ None
first_at-none [] q none = refl
first_at-none (e ∷ es) q none =
    cond-false _ _ _ (ne_eqb q e.0 (λ same. none 0 (ap Some (sym same)))) ∙ first_at-none es q (λ j g. none (suc j) g)

-- what the map of the entries has is what lies in the slot that the index finds
pub get-look_up : {V : Type 0} (index : List (Option ℕ)) (es : List (ℕ × V)) (q : ℕ) → Indexes index (pages_of es) → get (from_entries {R = nat_cmp} es) q ≡ look_up index es q
get-look_up index es q x =
    get-from_entries nat_cmp_total es q ∙ find-first es q
    ∙ elim (get_or index q None) as (λ o. get_or index q None ≡ o → first_at q es ≡ option_and_then (λ i. option_map (λ e. e.1) (slice_get es i)) o) [
      | None ↦ λ none. first_at-none es q (λ j h. none-some j (sym none ∙ x.indexed q j h))
      | Some i ↦ λ some. first_at-slot es q i (x.listed q i some) (λ j h. same_Some j i (sym (x.indexed q j h) ∙ some))
    ] refl

-- ---- slices by index

slice_get-append_left : {X : Type 0} (xs ys : List X) (i : ℕ) (x : X) → slice_get xs i ≡ Some x → slice_get (xs ++ ys) i ≡ Some x
slice_get-append_left [] ys i x h = absurd (none-some x h)
slice_get-append_left (y ∷ xs) ys zero x h = h
slice_get-append_left (y ∷ xs) ys (suc i) x h = slice_get-append_left xs ys i x h

slice_get-push : {X : Type 0} (xs : List X) (x : X) → slice_get (xs ++ x ∷ []) (length xs) ≡ Some x
slice_get-push [] x = refl
slice_get-push (y ∷ xs) x = slice_get-push xs x

-- what a list with one more element has is that, or was there before
push_cases : {X : Type 0} (xs : List X) (x : X) (i : ℕ) (y : X) → slice_get (xs ++ x ∷ []) i ≡ Some y → (slice_get xs i ≡ Some y) ⊎ ((i ≡ length xs) × (x ≡ y))
push_cases [] x zero y h = inr (refl, same_Some _ _ h)
push_cases [] x (suc i) y h = absurd (none-some y h)
push_cases (z ∷ xs) x zero y h = inl h
push_cases (z ∷ xs) x (suc i) y h =
    elim (push_cases xs x i y h) [ inl old ↦ inl old | inr new ↦ inr (ap suc new.0, new.1) ]

slice_get-set_same : {X : Type 0} (xs : List X) (i : ℕ) (x : X) → i < length xs → slice_get (set xs i x) i ≡ Some x
slice_get-set_same [] i x h = absurd (omega arith)
slice_get-set_same (y ∷ xs) zero x h = refl
slice_get-set_same (y ∷ xs) (suc i) x h = slice_get-set_same xs i x (omega arith)

slice_get-set_other : {X : Type 0} (xs : List X) (i j : ℕ) (x : X) → j ≢ i → slice_get (set xs i x) j ≡ slice_get xs j
slice_get-set_other [] i j x ne = refl
slice_get-set_other (y ∷ xs) zero zero x ne = absurd (ne refl)
slice_get-set_other (y ∷ xs) zero (suc j) x ne = refl
slice_get-set_other (y ∷ xs) (suc i) zero x ne = refl
slice_get-set_other (y ∷ xs) (suc i) (suc j) x ne = slice_get-set_other xs i j x (λ e. ne (ap suc e))

slice_get-take : {X : Type 0} (n : ℕ) (xs : List X) (j : ℕ) → j < n → slice_get (take n xs) j ≡ slice_get xs j
slice_get-take zero xs j h = absurd (omega arith)
slice_get-take (suc n) [] j h = refl
slice_get-take (suc n) (x ∷ xs) zero h = refl
slice_get-take (suc n) (x ∷ xs) (suc j) h = slice_get-take n xs j (omega arith)

slice_get-take_past : {X : Type 0} (n : ℕ) (xs : List X) (j : ℕ) → n ≤ j → slice_get (take n xs) j ≡ None
slice_get-take_past zero xs j h = refl
slice_get-take_past (suc n) [] j h = refl
slice_get-take_past (suc n) (x ∷ xs) zero h = absurd (omega arith)
slice_get-take_past (suc n) (x ∷ xs) (suc j) h = slice_get-take_past n xs j (omega arith)

-- an index after one write
pub get_or-set : {X : Type 0} (xs : List X) (k : ℕ) (v d : X) (q : ℕ) → k < length xs → get_or (set xs k v) q d ≡ cond (q == k) v (get_or xs q d)
get_or-set xs k v d q h = elim (cases_eq q k) [
  | inl same ↦ rw same (get_or-set_same xs k v d h ∙ sym (cond-true _ _ _ (eq-eqb k k refl)))
  | inr other ↦ get_or-set_other xs k q v d other ∙ sym (cond-false _ _ _ (ne_eqb q k other))
]

-- ---- the map after a call

pub nat_get-insert : {X : Type 0} (m : FinMap nat_cmp X) (k : ℕ) (v : X) (q : ℕ) → get (insert m k v) q ≡ cond (q == k) (Some v) (get m q)
nat_get-insert m k v q = get-insert nat_cmp_total m k v q ∙ ap (λ b. cond b (Some v) (get m q)) (unsigned_tied q k)

pub nat_get-remove : {X : Type 0} (m : FinMap nat_cmp X) (k q : ℕ) → get (remove m k) q ≡ cond (q == k) None (get m q)
nat_get-remove m k q = get-remove nat_cmp_total m k q ∙ ap (λ b. cond b None (get m q)) (unsigned_tied q k)

pages_of-push : {V : Type 0} (es : List (ℕ × V)) (k : ℕ) (v : V) → pages_of (es ++ (k, v) ∷ []) ≡ pages_of es ++ k ∷ []
pages_of-push es k v = map-append (λ e. e.0) es ((k, v) ∷ [])

slice_get-pages : {V : Type 0} (es : List (ℕ × V)) (i : ℕ) → slice_get (pages_of es) i ≡ option_map (λ e. e.0) (slice_get es i)
slice_get-pages es i = slice_get-map (λ e. e.0) es i

-- an entry whose page is known
pub entry_at : {V : Type 0} (es : List (ℕ × V)) (i k : ℕ) → slice_get (pages_of es) i ≡ Some k → (v : V) × (slice_get es i ≡ Some (k, v))
entry_at [] i k h = absurd (none-some k h)
entry_at (e ∷ es) zero k h = (e.1, ap (λ p. Some (p, e.1)) (same_Some _ _ h))
entry_at (e ∷ es) (suc i) k h = entry_at es i k h

-- a page that is not in the map is not in the index
pub unindexed : {V : Type 0} (index : List (Option ℕ)) (es : List (ℕ × V)) (k : ℕ) → Indexes index (pages_of es) → get (from_entries {R = nat_cmp} es) k ≡ None → get_or index k None ≡ None
unindexed index es k x none =
    elim (get_or index k None) as (λ o. get_or index k None ≡ o → o ≡ None) [
      | None ↦ λ e. refl
      | Some i ↦ λ e.
          let at = entry_at es i k (x.listed k i e) in
          absurd (none-some at.0 (sym none ∙ get-look_up index es k x ∙ ap (option_and_then (λ i. option_map (λ e. e.1) (slice_get es i))) e ∙ ap (option_map (λ e. e.1)) at.1))
    ] refl

-- ---- a page put in a new slot

pub Indexes-push : {V : Type 0} (index new : List (Option ℕ)) (es : List (ℕ × V)) (k : ℕ) (v : V) → Indexes index (pages_of es) → get_or index k None ≡ None → ((q : ℕ) → get_or new q None ≡ cond (q == k) (Some (length es)) (get_or index q None)) → Indexes new (pages_of (es ++ (k, v) ∷ []))
Indexes-push {V} index new es k v x none noted = record {
  listed = λ p i h. rw pages_of-push (elim (cases_eq p k) [
    | inl same ↦
        let last : length es ≡ i = same_Some _ _ (sym (noted p ∙ cond-true _ _ _ (eq-eqb p k same)) ∙ h) in
        rw (same, ← last, ← length-map es (λ (e : ℕ × V). e.0)) (slice_get-push (pages_of es) k)
    | inr other ↦ slice_get-append_left _ _ i p (x.listed p i (sym (noted p ∙ cond-false _ _ _ (ne_eqb p k other)) ∙ h))
  ]);
  indexed = λ p i h.
      elim (push_cases (pages_of es) k i p (sym (ap (λ l. slice_get l i) (pages_of-push es k v)) ∙ h)) [
        | inl old ↦
            let at = x.indexed p i old in
            noted p ∙ cond-false _ _ _ (ne_eqb p k (λ same. none-some i (sym none ∙ ap (λ q. get_or index q None) (sym same) ∙ at))) ∙ at
        | inr last ↦
            noted p ∙ cond-true _ _ _ (eq-eqb p k (sym last.1)) ∙ ap Some (sym (length-map es (λ (e : ℕ × V). e.0)) ∙ sym last.0)
      ];
}

pub from_entries-push : {V : Type 0} (es : List (ℕ × V)) (k : ℕ) (v : V) → get (from_entries {R = nat_cmp} es) k ≡ None → from_entries {R = nat_cmp} (es ++ (k, v) ∷ []) ≡ insert (from_entries es) k v
from_entries-push es k v none = from_entries_push nat_cmp_total nat_cmp-IsAntisymmetric es k v (sym (get-from_entries nat_cmp_total es k) ∙ none)

pub len-put : {V : Type 0} (m : FinMap nat_cmp V) (k n : ℕ) (v : V) → get m k ≡ None → len m ≡ n → len (insert m k v) ≡ n + 1
len-put m k n v none is = len-insert nat_cmp_total m k v ∙ ap (λ o. cond (is_some o) (len m) (len m + 1)) none ∙ ap (λ a. a + 1) is

-- ---- bytes written over a page

pub pages_of-set : {V : Type 0} (es : List (ℕ × V)) (i k : ℕ) (v : V) → slice_get (pages_of es) i ≡ Some k → pages_of (set es i (k, v)) ≡ pages_of es
pages_of-set [] i k v h = refl
pages_of-set (e ∷ es) zero k v h = ap (λ p. p ∷ pages_of es) (sym (same_Some _ _ h))
pages_of-set (e ∷ es) (suc i) k v h = ap (λ ps. e.0 ∷ ps) (pages_of-set es i k v h)

pub from_entries-set : {V : Type 0} (index : List (Option ℕ)) (es : List (ℕ × V)) (i k : ℕ) (v : V) → Indexes index (pages_of es) → get_or index k None ≡ Some i → from_entries {R = nat_cmp} (set es i (k, v)) ≡ insert (from_entries es) k v
from_entries-set {V} index es i k v x at =
    let place = x.listed k i at in
    let after : Indexes index (pages_of (set es i (k, v))) = subst (Indexes index) (sym (pages_of-set es i k v place)) x in
    let within : i < length es = let w = slice_get_within (pages_of es) i k place in omega (arith, w, length-map es (λ (e : ℕ × V). e.0)) in
    same_map nat_cmp_total nat_cmp-IsAntisymmetric _ _ (λ q.
    get-look_up index _ q after
    ∙ elim (cases_eq q k) [
      | inl same ↦ rw same (ap (option_and_then (λ j. option_map (λ e. e.1) (slice_get (set es i (k, v)) j))) at
          ∙ ap (option_map (λ e. e.1)) (slice_get-set_same es i (k, v) within)
          ∙ sym (nat_get-insert (from_entries es) k v k ∙ cond-true _ _ _ (eq-eqb k k refl)))
      | inr other ↦ elim (get_or index q None) as (λ o. get_or index q None ≡ o → option_and_then (λ j. option_map (λ e. e.1) (slice_get (set es i (k, v)) j)) o ≡ option_and_then (λ j. option_map (λ e. e.1) (slice_get es j)) o) [
        | None ↦ λ e. refl
        | Some j ↦ λ e. ap (option_map (λ e. e.1)) (slice_get-set_other es i j (k, v) (λ same. other (same_Some _ _ (sym (x.listed q j e) ∙ ap (slice_get (pages_of es)) same ∙ place))))
      ] refl
          ∙ sym (nat_get-insert (from_entries es) k v q ∙ cond-false _ _ _ (ne_eqb q k other) ∙ get-look_up index es q x)
    ])

pub len-write : {V : Type 0} (m : FinMap nat_cmp V) (k : ℕ) (v w : V) → get m k ≡ Some w → len (insert m k v) ≡ len m
len-write m k v w is = len-insert nat_cmp_total m k v ∙ ap (λ o. cond (is_some o) (len m) (len m + 1)) is

-- ---- a page forgotten, and the last slot in its place

-- ys is xs without the element at i, where the last one is now
pub record Replaces {X : Type 0} (xs ys : List X) (i : ℕ) : Type 0 where
  pub gone : (j : ℕ) → length xs ≤ j + 1 → slice_get ys j ≡ None
  pub hole : i + 1 < length xs → slice_get ys i ≡ slice_get xs (length xs - 1)
  pub kept : (j : ℕ) → j ≢ i → j + 1 < length xs → slice_get ys j ≡ slice_get xs j

replaces : {X : Type 0} (xs : List X) (i : ℕ) (d : X) → i < length xs → Replaces xs (swap_remove xs i d) i
replaces xs i d h = record {
  gone = λ j l. slice_get-take_past _ _ j (omega arith);
  hole = λ l. slice_get-take _ _ i (omega arith) ∙ slice_get-set_same xs i _ h ∙ sym (slice_get-get_or xs (length xs - 1) d (omega arith));
  kept = λ j ne l. slice_get-take _ _ j (omega arith) ∙ slice_get-set_other xs i j _ ne;
}

pub get_or-map : {X Y : Type 0} (f : X → Y) (xs : List X) (n : ℕ) (d : X) → get_or (map f xs) n (f d) ≡ f (get_or xs n d)
get_or-map f [] n d = refl
get_or-map f (x ∷ xs) zero d = refl
get_or-map f (x ∷ xs) (suc n) d = get_or-map f xs n d

pub map-swap_remove : {X Y : Type 0} (f : X → Y) (xs : List X) (i : ℕ) (d : X) → map f (swap_remove xs i d) ≡ swap_remove (map f xs) i (f d)
map-swap_remove f xs i d =
    sym (take-map f (length xs - 1) _) ∙ ap (take (length xs - 1)) (map-set f xs i _)
    ∙ rw (length-map xs f, get_or-map f xs (length xs - 1) d) refl

-- the index has the last page at the slot that is free now, and then forgets the page
abbrev pub Forgets : List (Option ℕ) → List (Option ℕ) → ℕ → ℕ → ℕ → Type 0
Forgets index new page moved i = (q : ℕ) → get_or new q None ≡ cond (q == page) None (cond (q == moved) (Some i) (get_or index q None))

pub Indexes-swap_remove : (index new : List (Option ℕ)) (pages left : List ℕ) (page moved i : ℕ) → Indexes index pages → Replaces pages left i → slice_get pages i ≡ Some page → slice_get pages (length pages - 1) ≡ Some moved → Forgets index new page moved i → Indexes new left
Indexes-swap_remove index new pages left page moved i x r here last noted =
    let within : i < length pages = slice_get_within pages i page here in
    record {
      listed = λ p j h. elim (cases_eq p page) [
        | inl same ↦ absurd (none-some j (sym (noted p ∙ cond-true _ _ _ (eq-eqb p page same)) ∙ h))
        | inr other ↦
            let h2 = sym (noted p ∙ cond-false _ _ _ (ne_eqb p page other)) ∙ h in
            elim (cases_eq p moved) [
              | inl end ↦
                  let j_is : i ≡ j = same_Some _ _ (sym (cond-true _ _ _ (eq-eqb p moved end)) ∙ h2) in
                  let apart : i ≢ length pages - 1 = λ e. other (end ∙ same_Some _ _ (sym last ∙ ap (slice_get pages) (sym e) ∙ here)) in
                  rw (← j_is, end) (r.hole (omega arith) ∙ last)
              | inr old ↦
                  let was : get_or index p None ≡ Some j = sym (cond-false _ _ _ (ne_eqb p moved old)) ∙ h2 in
                  let at : slice_get pages j ≡ Some p = x.listed p j was in
                  let inside : j < length pages = slice_get_within pages j p at in
                  let not_i : j ≢ i = λ e. other (same_Some _ _ (sym at ∙ ap (slice_get pages) e ∙ here)) in
                  let not_last : j ≢ length pages - 1 = λ e. old (same_Some _ _ (sym at ∙ ap (slice_get pages) e ∙ last)) in
                  r.kept j not_i (omega arith) ∙ at
            ]
      ];
      indexed = λ p j h. elim (cases_lt (j + 1) (length pages)) [
        | inr past ↦ absurd (none-some p (sym (r.gone j past) ∙ h))
        | inl inside ↦ elim (cases_eq j i) [
          | inl same ↦
              let hole : i + 1 < length pages = omega arith in
              let p_is : moved ≡ p = same_Some _ _ (sym (r.hole hole ∙ last) ∙ ap (slice_get left) (sym same) ∙ h) in
              let apart : p ≢ page = λ e. let z : length pages - 1 ≡ i = same_Some _ _ (sym (x.indexed moved _ last) ∙ ap (λ q. get_or index q None) (p_is ∙ e) ∙ x.indexed page i here) in omega arith in
              noted p ∙ cond-false _ _ _ (ne_eqb p page apart) ∙ cond-true _ _ _ (eq-eqb p moved (sym p_is)) ∙ ap Some (sym same)
          | inr other ↦
              let at : slice_get pages j ≡ Some p = sym (r.kept j other inside) ∙ h in
              let was : get_or index p None ≡ Some j = x.indexed p j at in
              let not_page : p ≢ page = λ e. other (same_Some _ _ (sym was ∙ ap (λ q. get_or index q None) e ∙ x.indexed page i here)) in
              let not_moved : p ≢ moved = λ e. let z : j ≡ length pages - 1 = same_Some _ _ (sym was ∙ ap (λ q. get_or index q None) e ∙ x.indexed moved _ last) in omega arith in
              noted p ∙ cond-false _ _ _ (ne_eqb p page not_page) ∙ cond-false _ _ _ (ne_eqb p moved not_moved) ∙ was
        ]
      ];
    }

pages_of-replaces : {V : Type 0} (es left : List (ℕ × V)) (i : ℕ) → Replaces es left i → Replaces (pages_of es) (pages_of left) i
pages_of-replaces {V} es left i r =
    let len_is : length (pages_of es) ≡ length es = length-map es (λ (e : ℕ × V). e.0) in
    record {
      gone = λ j l. slice_get-pages left j ∙ ap (option_map (λ e. e.0)) (r.gone j (omega arith));
      hole = λ l. slice_get-pages left i ∙ ap (option_map (λ e. e.0)) (r.hole (omega arith)) ∙ sym (slice_get-pages es (length es - 1)) ∙ ap (λ n. slice_get (pages_of es) (n - 1)) (sym len_is);
      kept = λ j ne l. slice_get-pages left j ∙ ap (option_map (λ e. e.0)) (r.kept j ne (omega arith)) ∙ sym (slice_get-pages es j);
    }

-- what the last slot has
last_entry : {V : Type 0} (es : List (ℕ × V)) (moved : ℕ) → slice_get (pages_of es) (length es - 1) ≡ Some moved → slice_get (pages_of es) (length (pages_of es) - 1) ≡ Some moved
last_entry {V} es moved last = ap (λ n. slice_get (pages_of es) (n - 1)) (length-map es (λ (e : ℕ × V). e.0)) ∙ last

pub Indexes-forgets : {V : Type 0} (index new : List (Option ℕ)) (es : List (ℕ × V)) (page moved i : ℕ) (d : ℕ × V) → Indexes index (pages_of es) → get_or index page None ≡ Some i → slice_get (pages_of es) (length es - 1) ≡ Some moved → Forgets index new page moved i → Indexes new (pages_of (swap_remove es i d))
Indexes-forgets {V} index new es page moved i d x at last noted =
    let here = x.listed page i at in
    let within : i < length es = let w = slice_get_within (pages_of es) i page here in omega (arith, w, length-map es (λ (e : ℕ × V). e.0)) in
    Indexes-swap_remove index new (pages_of es) _ page moved i x (pages_of-replaces es _ i (replaces es i d within)) here (last_entry es moved last) noted

look_up-forgets : {V : Type 0} (index new : List (Option ℕ)) (es left : List (ℕ × V)) (page moved i : ℕ) → Indexes index (pages_of es) → Replaces es left i → get_or index page None ≡ Some i → slice_get (pages_of es) (length es - 1) ≡ Some moved → Forgets index new page moved i → (q : ℕ) → look_up new left q ≡ cond (q == page) None (look_up index es q)
look_up-forgets {V} index new es left page moved i x r at last noted q =
    let here = x.listed page i at in
    let read : List (ℕ × V) → Option ℕ → Option V = λ l o. option_and_then (λ j. option_map (λ e. e.1) (slice_get l j)) o in
    let len_is : length (pages_of es) ≡ length es = length-map es (λ (e : ℕ × V). e.0) in
    let within : i < length (pages_of es) = slice_get_within (pages_of es) i page here in
    elim (cases_eq q page) [
      | inl same ↦ ap (read left) (noted q ∙ cond-true _ _ _ (eq-eqb q page same)) ∙ sym (cond-true _ _ _ (eq-eqb q page same))
      | inr other ↦
          ap (read left) (noted q ∙ cond-false _ _ _ (ne_eqb q page other))
          ∙ elim (cases_eq q moved) [
            | inl end ↦
                let apart : i ≢ length es - 1 = λ e. other (end ∙ same_Some _ _ (sym last ∙ ap (slice_get (pages_of es)) (sym e) ∙ here)) in
                ap (read left) (cond-true _ _ _ (eq-eqb q moved end))
                ∙ ap (option_map (λ e. e.1)) (r.hole (omega arith))
                ∙ sym (ap (read es) (ap (λ p. get_or index p None) end ∙ x.indexed moved _ last))
            | inr old ↦
                ap (read left) (cond-false _ _ _ (ne_eqb q moved old))
                ∙ elim (get_or index q None) as (λ o. get_or index q None ≡ o → read left o ≡ read es o) [
                  | None ↦ λ e. refl
                  | Some j ↦ λ e.
                      let found : slice_get (pages_of es) j ≡ Some q = x.listed q j e in
                      let inside : j < length (pages_of es) = slice_get_within (pages_of es) j q found in
                      let not_i : j ≢ i = λ s. other (same_Some _ _ (sym found ∙ ap (slice_get (pages_of es)) s ∙ here)) in
                      let not_last : j ≢ length es - 1 = λ s. old (same_Some _ _ (sym found ∙ ap (slice_get (pages_of es)) s ∙ last)) in
                      ap (option_map (λ e. e.1)) (r.kept j not_i (omega arith))
                ] refl
          ]
          ∙ sym (cond-false _ _ _ (ne_eqb q page other))
    ]

pub from_entries-forgets : {V : Type 0} (index new : List (Option ℕ)) (es : List (ℕ × V)) (page moved i : ℕ) (d : ℕ × V) → Indexes index (pages_of es) → get_or index page None ≡ Some i → slice_get (pages_of es) (length es - 1) ≡ Some moved → Forgets index new page moved i → from_entries {R = nat_cmp} (swap_remove es i d) ≡ remove (from_entries es) page
from_entries-forgets {V} index new es page moved i d x at last noted =
    let here = x.listed page i at in
    let within : i < length es = let w = slice_get_within (pages_of es) i page here in omega (arith, w, length-map es (λ (e : ℕ × V). e.0)) in
    same_map nat_cmp_total nat_cmp-IsAntisymmetric _ _ (λ q.
    get-look_up new _ q (Indexes-forgets index new es page moved i d x at last noted)
    ∙ look_up-forgets index new es _ page moved i x (replaces es i d within) at last noted q
    ∙ ap (cond (q == page) None) (sym (get-look_up index es q x))
    ∙ sym (nat_get-remove (from_entries es) page q))

pub len-forget : {V : Type 0} (m : FinMap nat_cmp V) (k : ℕ) (w : V) → get m k ≡ Some w → len (remove m k) ≡ len m - 1
len-forget m k w is = len-remove nat_cmp_total m k ∙ ap (λ o. cond (is_some o) (len m - 1) (len m)) is

-- ---- the slot of a page goes to another page

-- the index finds the other page in the slot, and no longer the page that had it
abbrev pub HandsOver : List (Option ℕ) → List (Option ℕ) → ℕ → ℕ → ℕ → Type 0
HandsOver index new page other i = (q : ℕ) → get_or new q None ≡ cond (q == other) (Some i) (cond (q == page) None (get_or index q None))

Indexes-set : (index new : List (Option ℕ)) (pages : List ℕ) (page other i : ℕ) → Indexes index pages → get_or index page None ≡ Some i → get_or index other None ≡ None → HandsOver index new page other i → Indexes new (set pages i other)
Indexes-set index new pages page other i x at free noted =
    let here = x.listed page i at in
    record {
      listed = λ p j h. elim (cases_eq p other) [
        | inl same ↦
            let j_is : i ≡ j = same_Some _ _ (sym (noted p ∙ cond-true _ _ _ (eq-eqb p other same)) ∙ h) in
            rw (← j_is, same) (slice_get-set_same pages i other (slice_get_within pages i page here))
        | inr apart ↦
            let h2 = sym (noted p ∙ cond-false _ _ _ (ne_eqb p other apart)) ∙ h in
            elim (cases_eq p page) [
              | inl gone ↦ absurd (none-some j (sym (cond-true _ _ _ (eq-eqb p page gone)) ∙ h2))
              | inr old ↦
                  let found : slice_get pages j ≡ Some p = x.listed p j (sym (cond-false _ _ _ (ne_eqb p page old)) ∙ h2) in
                  slice_get-set_other pages i j other (λ e. old (same_Some _ _ (sym found ∙ ap (slice_get pages) e ∙ here))) ∙ found
            ]
      ];
      indexed = λ p j h. elim (cases_eq j i) [
        | inl same ↦
            let p_is : other ≡ p = same_Some _ _ (sym (slice_get-set_same pages i other (slice_get_within pages i page here)) ∙ ap (slice_get (set pages i other)) (sym same) ∙ h) in
            noted p ∙ cond-true _ _ _ (eq-eqb p other (sym p_is)) ∙ ap Some (sym same)
        | inr apart ↦
            let was : get_or index p None ≡ Some j = x.indexed p j (sym (slice_get-set_other pages i j other apart) ∙ h) in
            let not_other : p ≢ other = λ e. none-some j (sym free ∙ ap (λ q. get_or index q None) (sym e) ∙ was) in
            let not_page : p ≢ page = λ e. apart (same_Some _ _ (sym was ∙ ap (λ q. get_or index q None) e ∙ at)) in
            noted p ∙ cond-false _ _ _ (ne_eqb p other not_other) ∙ cond-false _ _ _ (ne_eqb p page not_page) ∙ was
      ];
    }

pub Indexes-hands_over : {V : Type 0} (index new : List (Option ℕ)) (es : List (ℕ × V)) (page other i : ℕ) (v : V) → Indexes index (pages_of es) → get_or index page None ≡ Some i → get_or index other None ≡ None → HandsOver index new page other i → Indexes new (pages_of (set es i (other, v)))
Indexes-hands_over {V} index new es page other i v x at free noted =
    subst (Indexes new) (sym (map-set (λ (e : ℕ × V). e.0) es i (other, v))) (Indexes-set index new (pages_of es) page other i x at free noted)

pub from_entries-hands_over : {V : Type 0} (index new : List (Option ℕ)) (es : List (ℕ × V)) (page other i : ℕ) (v : V) → Indexes index (pages_of es) → get_or index page None ≡ Some i → get_or index other None ≡ None → HandsOver index new page other i → from_entries {R = nat_cmp} (set es i (other, v)) ≡ insert (remove (from_entries es) page) other v
from_entries-hands_over {V} index new es page other i v x at free noted =
    let here = x.listed page i at in
    let within : i < length es = let w = slice_get_within (pages_of es) i page here in omega (arith, w, length-map es (λ (e : ℕ × V). e.0)) in
    let read : List (ℕ × V) → Option ℕ → Option V = λ l o. option_and_then (λ j. option_map (λ e. e.1) (slice_get l j)) o in
    same_map nat_cmp_total nat_cmp-IsAntisymmetric _ _ (λ q.
    get-look_up new _ q (Indexes-hands_over index new es page other i v x at free noted)
    ∙ ap (read (set es i (other, v))) (noted q)
    ∙ elim (cases_eq q other) [
      | inl same ↦
          ap (read (set es i (other, v))) (cond-true _ _ _ (eq-eqb q other same))
          ∙ ap (option_map (λ e. e.1)) (slice_get-set_same es i (other, v) within)
          ∙ sym (cond-true _ _ _ (eq-eqb q other same))
      | inr apart ↦
          ap (read (set es i (other, v))) (cond-false _ _ _ (ne_eqb q other apart))
          ∙ elim (cases_eq q page) [
            | inl gone ↦
                ap (read (set es i (other, v))) (cond-true _ _ _ (eq-eqb q page gone)) ∙ sym (cond-true _ _ _ (eq-eqb q page gone))
            | inr old ↦
                ap (read (set es i (other, v))) (cond-false _ _ _ (ne_eqb q page old))
                ∙ elim (get_or index q None) as (λ o. get_or index q None ≡ o → read (set es i (other, v)) o ≡ read es o) [
                  | None ↦ λ e. refl
                  | Some j ↦ λ e. ap (option_map (λ e. e.1)) (slice_get-set_other es i j (other, v) (λ same. old (same_Some _ _ (sym (x.listed q j e) ∙ ap (slice_get (pages_of es)) same ∙ here))))
                ] refl
                ∙ sym (cond-false _ _ _ (ne_eqb q page old) ∙ get-look_up index es q x)
          ]
          ∙ sym (cond-false _ _ _ (ne_eqb q other apart) ∙ nat_get-remove (from_entries es) page q)
    ]
    ∙ sym (nat_get-insert (remove (from_entries es) page) other v q))

pub len-hands_over : {V : Type 0} (m : FinMap nat_cmp V) (page other : ℕ) (v w : V) → get m page ≡ Some w → get m other ≡ None → 0 < len m → len (insert (remove m page) other v) ≡ len m
len-hands_over {V} m page other v w there none some =
    let gone : get (remove m page) other ≡ None = nat_get-remove m page other ∙ ap (cond (other == page) None) none ∙ same (other == page) in
    let more = len-put (remove m page) other (len m - 1) v gone (len-forget m page w there) in
    omega (arith, more)
  where
    same : (b : Bool) → cond {A = Option V} b None None ≡ None
    same true = refl
    same false = refl
