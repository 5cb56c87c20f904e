-- What is left of a list, and what is made of it so far.
use Rattle.std.proofs.Common.{◌≡◌, ◌∙◌, ℕ, List, [], ◌∷◌, ◌++◌, Some, ◌+◌, ◌<◌, ap, sym, map, drop, length, append_assoc, slice_get, arith, drop-cons, get_or, suc, Bool, true, false, ◌||◌, refl}
use Rattle.std.proofs.lemmas.Option.{get_or_from_slice_get, slice_get_within}
use Rattle.std.proofs.lemmas.List.FromFn.{map-range_with_len_more}
use Rattle.std.specs.List.{flat_map, list_any, range_with_len}

-- the element at a place, and those behind it
pub drop-item : {X : Type 0} (xs : List X) (i : ℕ) (x : X) → i < length xs → x ≡ get_or xs i x → drop i xs ≡ x ∷ drop (i + 1) xs
drop-item xs i x lt is =
    let next : suc i ≡ i + 1 = omega arith in
    drop-cons xs i x lt ∙ ap (λ y. y ∷ drop (suc i) xs) (sym is) ∙ ap (λ (k : ℕ). x ∷ drop k xs) next

pub drop-got : {X : Type 0} (xs : List X) (i : ℕ) (x : X) → slice_get xs i ≡ Some x → drop i xs ≡ x ∷ drop (i + 1) xs
drop-got xs i x is = drop-item xs i x (slice_get_within xs i x is) (sym (get_or_from_slice_get xs i x x is))

-- what comes of one element is put behind what came of those before it
pub one-more : {X Y : Type 0} (f : X → Y) (xs : List X) (i : ℕ) (x : X) (old new whole : List Y) → drop i xs ≡ x ∷ drop (i + 1) xs
    → new ≡ old ++ f x ∷ [] → old ++ map f (drop i xs) ≡ whole → new ++ map f (drop (i + 1) xs) ≡ whole
one-more f xs i x old new whole at is left =
    ap (λ ys. ys ++ map f (drop (i + 1) xs)) is ∙ append_assoc old (f x ∷ []) (map f (drop (i + 1) xs))
    ∙ ap (λ ys. old ++ map f ys) (sym at) ∙ left

pub some-more : {X Y : Type 0} (f : X → List Y) (xs : List X) (i : ℕ) (x : X) (old new whole : List Y) → drop i xs ≡ x ∷ drop (i + 1) xs
    → new ≡ old ++ f x → old ++ flat_map f (drop i xs) ≡ whole → new ++ flat_map f (drop (i + 1) xs) ≡ whole
some-more f xs i x old new whole at is left =
    ap (λ ys. ys ++ flat_map f (drop (i + 1) xs)) is ∙ append_assoc old (f x) (flat_map f (drop (i + 1) xs))
    ∙ ap (λ ys. old ++ flat_map f ys) (sym at) ∙ left

-- what comes of one number more, behind what there was
pub next-in_range : {Y : Type 0} (f : ℕ → Y) (n : ℕ) (first old new : List Y) → old ≡ first ++ map f (range_with_len 0 n)
    → new ≡ old ++ f n ∷ [] → new ≡ first ++ map f (range_with_len 0 (n + 1))
next-in_range f n first old new so_far more =
    more ∙ ap (λ ys. ys ++ f n ∷ []) so_far ∙ append_assoc first (map f (range_with_len 0 n)) (f n ∷ [])
    ∙ ap (λ ys. first ++ ys) (sym (map-range_with_len_more f 0 n n (omega arith)))

or-turned : (a b old : Bool) → (b || (old || a)) ≡ ((a || b) || old)
or-turned true true true = refl
or-turned true true false = refl
or-turned true false true = refl
or-turned true false false = refl
or-turned false true true = refl
or-turned false true false = refl
or-turned false false true = refl
or-turned false false false = refl

-- whether one number more passes a test, or one of those behind it
pub any-more : (p : ℕ → Bool) (xs : List ℕ) (i x : ℕ) (old now : Bool) → drop i xs ≡ x ∷ drop (i + 1) xs → now ≡ p x
    → (list_any p (drop i xs) || old) ≡ list_any p xs → (list_any p (drop (i + 1) xs) || (old || now)) ≡ list_any p xs
any-more p xs i x old now at is so_far =
    ap (λ (b : Bool). list_any p (drop (i + 1) xs) || (old || b)) is ∙ or-turned (p x) (list_any p (drop (i + 1) xs)) old
    ∙ ap (λ (ys : List ℕ). list_any p ys || old) (sym at) ∙ so_far
