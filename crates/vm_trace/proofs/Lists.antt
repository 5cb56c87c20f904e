-- Lists that are put together, and those with an element for each number of a range.
use Rattle.std.proofs.Common.{◌≡◌, ℕ, zero, suc, ◌+◌, ◌<◌, List, [], ◌∷◌, ◌++◌, map, length, Some, slice_get, refl, ap, ◌∙◌, arith}
use Rattle.std.specs.List.{range_with_len}

-- an element of the front
pub slice_get_left : {A : Type 0} → (xs ys : List A) (k : ℕ) → k < length xs → slice_get (xs ++ ys) k ≡ slice_get xs k
slice_get_left [] ys k below = absurd (omega arith)
slice_get_left (x ∷ xs) ys zero below = refl
slice_get_left (x ∷ xs) ys (suc k) below = slice_get_left xs ys k (omega arith)

-- an element behind the front
pub slice_get_right : {A : Type 0} → (xs ys : List A) (m k : ℕ) → m ≡ length xs + k → slice_get (xs ++ ys) m ≡ slice_get ys k
slice_get_right [] ys m k is = ap (slice_get ys) (let same : m ≡ k = omega (arith, is) in same)
slice_get_right (x ∷ xs) ys zero k is = absurd (omega arith)
slice_get_right (x ∷ xs) ys (suc m) k is = slice_get_right xs ys m k (omega arith)

-- the element of a number
pub slice_get-row : {A : Type 0} → (f : ℕ → A) (a n k : ℕ) → k < n → slice_get (map f (range_with_len a n)) k ≡ Some (f (a + k))
slice_get-row f a zero k below = absurd (omega arith)
slice_get-row f a (suc n) zero below = ap (λ (m : ℕ). Some (f m)) (omega arith)
slice_get-row f a (suc n) (suc k) below =
    let next : a + 1 + k ≡ a + suc k = omega arith in
    slice_get-row f (a + 1) n k (omega arith) ∙ ap (λ m. Some (f m)) next

-- a range that begins further on
pub shifted : {A : Type 0} → (f : ℕ → A) (page a b n : ℕ) → page + a ≡ b → map (λ i. f (page + i)) (range_with_len a n) ≡ map f (range_with_len b n)
shifted f page a b zero is = refl
shifted f page a b (suc n) is =
    let here : page + a ≡ b = is in
    λ i. f (here i) ∷ shifted f page (a + 1) (b + 1) n (omega arith) i
