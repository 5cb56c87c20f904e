-- Pages that are accepted one by one.
use Rattle.std.proofs.Common.{◌≡◌, ℕ, ◌<◌, ◌≤◌, Bool, true, false, cond, List, [], ◌∷◌, ◌++◌, ◌+◌, length, get_or, drop, refl, sym, ap, ◌∙◌, inl, inr, arith, append_assoc, length-set, get_or-set_same, get_or-set_other}
use Rattle.std.specs.Prelude.{◌==◌, ◌&&◌, ◌||◌, not, filter, nat_lt}
use Rattle.std.proofs.Math.Bool.{and-true}
use Rattle.std.proofs.lemmas.Bool.{eqb-true}
use Rattle.std.proofs.lemmas.Bool.Decides.{eqb_tells}
use Rattle.std.proofs.lemmas.List.{drop_more, drop_all}
use Rattle.vm_pages.specs.Pages.{contains, insert, remove}
use Rattle.vm_balloon.specs.Service.{distinct, can_inflate, can_deflate, inflated_by, deflated_by}

-- two tests, one after the other
filter-filter : (p q : ℕ → Bool) (xs : List ℕ) → filter p (filter q xs) ≡ filter (λ x. q x && p x) xs
filter-filter p q [] = refl
filter-filter p q (x ∷ xs) =
    let rest = filter-filter p q xs in
    elim (q x) as (λ b. filter p (cond b (x ∷ filter q xs) (filter q xs)) ≡ cond (b && p x) (x ∷ filter (λ y. q y && p y) xs) (filter (λ y. q y && p y) xs)) [
      | true ↦ ap (λ (ys : List ℕ). cond (p x) (x ∷ ys) ys) rest
      | false ↦ rest
    ]

-- two tests that agree
filter_same : (p q : ℕ → Bool) → ((x : ℕ) → p x ≡ q x) → (xs : List ℕ) → filter p xs ≡ filter q xs
filter_same p q same [] = refl
filter_same p q same (x ∷ xs) = rw (same x, filter_same p q same xs) refl

and_comm : (a b : Bool) → (a && b) ≡ (b && a)
and_comm true true = refl
and_comm true false = refl
and_comm false true = refl
and_comm false false = refl

and-false : (a : Bool) → (a && false) ≡ false
and-false true = refl
and-false false = refl

filter_comm : (p q : ℕ → Bool) (xs : List ℕ) → filter p (filter q xs) ≡ filter q (filter p xs)
filter_comm p q xs =
    filter-filter p q xs ∙ filter_same _ _ (λ x. and_comm (q x) (p x)) xs ∙ sym (filter-filter q p xs)

-- a number that fails a test is no loss to those that pass it
other_passes : (p : ℕ → Bool) (x : ℕ) → p x ≡ false → (y : ℕ) → (not (y == x) && p y) ≡ p y
other_passes p x fails y =
    let by_test : (b : Bool) → (y == x) ≡ b → (not b && p y) ≡ p y =
    λ b. elim b as (λ v. (y == x) ≡ v → (not v && p y) ≡ p y) [
      | true ↦ λ e. sym (ap p (eqb-true y x e) ∙ fails)
      | false ↦ λ e. refl
    ] in
    by_test (y == x) refl

-- the different ones of the numbers that pass, or those of the different ones that pass
filter-distinct : (p : ℕ → Bool) (xs : List ℕ) → filter p (distinct xs) ≡ distinct (filter p xs)
unfolding distinct
filter-distinct p [] = refl
filter-distinct p (x ∷ xs) =
    let other : ℕ → Bool = λ y. not (y == x) in
    let rest = filter-distinct p xs in
    let by_test : (b : Bool) → p x ≡ b
    → cond b (x ∷ filter p (filter other (distinct xs))) (filter p (filter other (distinct xs))) ≡ distinct (cond b (x ∷ filter p xs) (filter p xs)) =
    λ b. elim b as (λ v. p x ≡ v
    → cond v (x ∷ filter p (filter other (distinct xs))) (filter p (filter other (distinct xs))) ≡ distinct (cond v (x ∷ filter p xs) (filter p xs))) [
      | true ↦ λ e. ap (λ (ys : List ℕ). x ∷ ys) (filter_comm p other (distinct xs) ∙ ap (filter other) rest)
      | false ↦ λ e. filter-filter p other (distinct xs) ∙ filter_same _ _ (other_passes p x e) (distinct xs) ∙ rest
    ] in
    by_test (p x) refl

-- a number that passes is the first of the different ones, and from then on does not pass
distinct-passes : (p q : ℕ → Bool) (x : ℕ) (xs : List ℕ) → p x ≡ true → ((y : ℕ) → q y ≡ (p y && not (y == x)))
    → distinct (filter p (x ∷ xs)) ≡ x ∷ distinct (filter q xs)
unfolding distinct
distinct-passes p q x xs passes from_then =
    let other : ℕ → Bool = λ y. not (y == x) in
    let first : filter p (x ∷ xs) ≡ x ∷ filter p xs = rw passes refl in
    let later : filter other (filter p xs) ≡ filter q xs =
    filter-filter other p xs ∙ filter_same _ _ (λ y. sym (from_then y)) xs in
    ap distinct first ∙ ap (λ (ys : List ℕ). x ∷ ys) (filter-distinct other (filter p xs) ∙ ap distinct later)

distinct-fails : (p : ℕ → Bool) (x : ℕ) (xs : List ℕ) → p x ≡ false → distinct (filter p (x ∷ xs)) ≡ distinct (filter p xs)
distinct-fails p x xs fails = rw fails refl

-- a page that is put into the balloon cannot be put there again
can_inflate-insert : (balloon : List Bool) (page : ℕ) → page < length balloon
    → (y : ℕ) → can_inflate (insert balloon page) y ≡ (can_inflate balloon y && not (y == page))
can_inflate-insert balloon page within y =
    let size = length-set balloon page true in
    elim (eqb_tells y page) [
      | inl (e, y_is) ↦
          let now_in : contains (insert balloon page) y ≡ true = rw y_is (get_or-set_same balloon page true false within) in
          rw (size, now_in, e, and-false (nat_lt y (length balloon)), and-false (nat_lt y (length balloon) && not (contains balloon y))) refl
      | inr (e, other) ↦
          let as_before : contains (insert balloon page) y ≡ contains balloon y = get_or-set_other balloon page y true false other in
          rw (size, as_before, e) (sym (and-true (can_inflate balloon y)))
    ]

-- a page that is taken out cannot be taken out again
can_deflate-remove : (balloon early : List Bool) (page : ℕ) → page < length balloon → length early ≡ length balloon
    → (y : ℕ) → can_deflate (remove balloon page) (remove early page) y ≡ (can_deflate balloon early y && not (y == page))
can_deflate-remove balloon early page within same y =
    let size = length-set balloon page false in
    elim (eqb_tells y page) [
      | inl (e, y_is) ↦
          let not_in : contains (remove balloon page) y ≡ false = rw y_is (get_or-set_same balloon page false false within) in
          let not_early : contains (remove early page) y ≡ false = rw y_is (get_or-set_same early page false false (omega arith)) in
          rw (size, not_in, not_early, e, and-false (nat_lt y (length balloon)), and-false (nat_lt y (length balloon) && (contains balloon y || contains early y))) refl
      | inr (e, other) ↦
          let as_before : contains (remove balloon page) y ≡ contains balloon y = get_or-set_other balloon page y false false other in
          let early_as_before : contains (remove early page) y ≡ contains early y = get_or-set_other early page y false false other in
          rw (size, as_before, early_as_before, e) (sym (and-true (can_deflate balloon early y)))
    ]

-- the number at place i is accepted
pub inflated_by-accepted : (balloon : List Bool) (numbers done : List ℕ) (i : ℕ) → i < length numbers → get_or numbers i 0 < length balloon
    → can_inflate balloon (get_or numbers i 0) ≡ true
    → (done ++ get_or numbers i 0 ∷ []) ++ inflated_by (insert balloon (get_or numbers i 0)) (drop (i + 1) numbers) ≡ done ++ inflated_by balloon (drop i numbers)
inflated_by-accepted balloon numbers done i within page_within passes =
    let page = get_or numbers i 0 in
    let step = distinct-passes (can_inflate balloon) (can_inflate (insert balloon page)) page (drop (i + 1) numbers) passes (can_inflate-insert balloon page page_within) in
    rw (drop_more numbers i 0 within) (append_assoc done (page ∷ []) _ ∙ ap (λ (ys : List ℕ). done ++ ys) (sym step))

-- the number at place i is ignored
pub inflated_by-ignored : (balloon : List Bool) (numbers : List ℕ) (i : ℕ) → i < length numbers → can_inflate balloon (get_or numbers i 0) ≡ false
    → inflated_by balloon (drop (i + 1) numbers) ≡ inflated_by balloon (drop i numbers)
inflated_by-ignored balloon numbers i within fails =
    rw (drop_more numbers i 0 within) (sym (distinct-fails (can_inflate balloon) (get_or numbers i 0) (drop (i + 1) numbers) fails))

-- no number is left
pub inflated_by-none : (balloon : List Bool) (numbers : List ℕ) (i : ℕ) → length numbers ≤ i → inflated_by balloon (drop i numbers) ≡ []
unfolding distinct
inflated_by-none balloon numbers i past = rw (drop_all i numbers past) refl

-- the number at place i is accepted
pub deflated_by-accepted : (balloon early : List Bool) (numbers done : List ℕ) (i : ℕ) → i < length numbers → get_or numbers i 0 < length balloon
    → length early ≡ length balloon → can_deflate balloon early (get_or numbers i 0) ≡ true
    → (done ++ get_or numbers i 0 ∷ []) ++ deflated_by (remove balloon (get_or numbers i 0)) (remove early (get_or numbers i 0)) (drop (i + 1) numbers)
    ≡ done ++ deflated_by balloon early (drop i numbers)
deflated_by-accepted balloon early numbers done i within page_within same passes =
    let page = get_or numbers i 0 in
    let step =
    distinct-passes (can_deflate balloon early) (can_deflate (remove balloon page) (remove early page)) page (drop (i + 1) numbers) passes
    (can_deflate-remove balloon early page page_within same) in
    rw (drop_more numbers i 0 within) (append_assoc done (page ∷ []) _ ∙ ap (λ (ys : List ℕ). done ++ ys) (sym step))

-- the number at place i is ignored
pub deflated_by-ignored : (balloon early : List Bool) (numbers : List ℕ) (i : ℕ) → i < length numbers → can_deflate balloon early (get_or numbers i 0) ≡ false
    → deflated_by balloon early (drop (i + 1) numbers) ≡ deflated_by balloon early (drop i numbers)
deflated_by-ignored balloon early numbers i within fails =
    rw (drop_more numbers i 0 within) (sym (distinct-fails (can_deflate balloon early) (get_or numbers i 0) (drop (i + 1) numbers) fails))

-- no number is left
pub deflated_by-none : (balloon early : List Bool) (numbers : List ℕ) (i : ℕ) → length numbers ≤ i → deflated_by balloon early (drop i numbers) ≡ []
unfolding distinct
deflated_by-none balloon early numbers i past = rw (drop_all i numbers past) refl
