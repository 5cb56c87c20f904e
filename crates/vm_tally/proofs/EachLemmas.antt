-- Lists whose elements are changed by their positions.
use Rattle.std.proofs.Common.{◌≡◌, ℕ, zero, suc, ◌+◌, ◌<◌, List, [], ◌∷◌, ◌++◌, length, map, take, drop, slice_set, slice_index_or, refl, sym, ap, ◌∙◌, arith, add-one}
use Rattle.std.proofs.lemmas.List.{append-nil, drop_all, take_all}
use Rattle.std.specs.List.{range_with_len}
use Rattle.vm_tally.specs.GuestTally.{each_at}

-- two changes of each element, one after the other
pub each_at-each_at : {A : Type 0} (f g : ℕ → A → A) (k : ℕ) (xs : List A) → each_at f k (each_at g k xs) ≡ each_at (λ p x. f p (g p x)) k xs
each_at-each_at f g k [] = refl
each_at-each_at f g k (x ∷ xs) = ap (λ l. f k (g k x) ∷ l) (each_at-each_at f g (k + 1) xs)

-- a change that changes nothing
pub each_at-same : {A : Type 0} (f : ℕ → A → A) (k : ℕ) (xs : List A) → ((p : ℕ) (x : A) → f p x ≡ x) → each_at f k xs ≡ xs
each_at-same f k [] same = refl
each_at-same f k (x ∷ xs) same = λ i. same k x i ∷ each_at-same f (k + 1) xs same i

-- of a list that is made by position
pub each_at-map : {A : Type 0} (f : ℕ → A → A) (make : ℕ → A) (k n : ℕ)
    → each_at f k (map make (range_with_len k n)) ≡ map (λ p. f p (make p)) (range_with_len k n)
each_at-map f make k zero = refl
each_at-map f make k (suc n) = ap (λ l. f k (make k) ∷ l) (each_at-map f make (k + 1) n)

-- one element more is changed, at position j, behind the first ones
pub each_at-one : {A : Type 0} (f : ℕ → A → A) (j : ℕ) (xs : List A) (i : ℕ) (d : A) → i < length xs
    → take (suc i) (slice_set xs i (f j (slice_index_or xs i d))) ++ each_at f (j + 1) (drop (suc i) (slice_set xs i (f j (slice_index_or xs i d))))
    ≡ take i xs ++ each_at f j (drop i xs)
each_at-one f j [] i d within = absurd (omega arith)
each_at-one f j (x ∷ xs) zero d within = refl
each_at-one f j (x ∷ xs) (suc i) d within = ap (λ l. x ∷ l) (each_at-one f j xs i d (omega arith))

-- the same for a list that was written there, whose changes complete a whole
pub one-more : {A : Type 0} (f : ℕ → A → A) (i : ℕ) (d : A) (old new whole : List A) → i < length old → new ≡ slice_set old i (f i (slice_index_or old i d))
    → take i old ++ each_at f i (drop i old) ≡ whole → take (i + 1) new ++ each_at f (i + 1) (drop (i + 1) new) ≡ whole
one-more f i d old new whole within is so_far =
    (λ t. take (add-one i t) (is t) ++ each_at f (i + 1) (drop (add-one i t) (is t))) ∙ each_at-one f i old i d within ∙ so_far

-- all are changed
pub all-changed : {A : Type 0} (f : ℕ → A → A) (n : ℕ) (new whole : List A) → n ≡ length new → take n new ++ each_at f n (drop n new) ≡ whole → new ≡ whole
all-changed f n new whole all done =
    let gone : drop n new ≡ [] = drop_all n new (omega arith) in
    let kept : take n new ≡ new = take_all n new (omega arith) in
    sym kept ∙ sym (append-nil (take n new)) ∙ ap (λ l. take n new ++ each_at f n l) (sym gone) ∙ done
