-- Sums over lists that are put together.
use Rattle.std.proofs.Common.{◌≡◌, ℕ, zero, suc, ◌+◌, ◌==◌, Bool, true, false, List, [], ◌∷◌, ◌++◌, length, map, if◌then◌else◌, refl, sym, ap, ◌∙◌, arith}
use Rattle.std.specs.List.{flat_map, range_with_len}
use Rattle.vm_plan.specs.declared.stretch.Stretch.{Stretch}
use Rattle.vm_plan.specs.Stretches.{stretches_of, with_one}
use Rattle.vm_tally.specs.Counting.{sum_each, sum_over}

pub sum-append : {A : Type 0} (f : A → ℕ) (xs ys : List A) → sum_each f (xs ++ ys) ≡ sum_each f xs + sum_each f ys
sum-append f [] ys = omega arith
sum-append f (x ∷ xs) ys = omega (arith, sum-append f xs ys)

pub sum-map : {A B : Type 0} (f : B → ℕ) (g : A → B) (xs : List A) → sum_each f (map g xs) ≡ sum_each (λ x. f (g x)) xs
sum-map f g [] = refl
sum-map f g (x ∷ xs) = ap (λ n. f (g x) + n) (sum-map f g xs)

pub sum-flat_map : {A B : Type 0} (f : B → ℕ) (g : A → List B) (xs : List A) → sum_each f (flat_map g xs) ≡ sum_each (λ x. sum_each f (g x)) xs
sum-flat_map f g [] = refl
sum-flat_map f g (x ∷ xs) = sum-append f (g x) (flat_map g xs) ∙ ap (λ n. sum_each f (g x) + n) (sum-flat_map f g xs)

pub sum-none : {A : Type 0} (xs : List A) → sum_each (λ _. 0) xs ≡ 0
sum-none [] = refl
sum-none (x ∷ xs) = omega (arith, sum-none xs)

pub sum-ones : {A : Type 0} (xs : List A) → sum_each (λ _. 1) xs ≡ length xs
sum-ones [] = refl
sum-ones (x ∷ xs) = omega (arith, sum-ones xs)

pub over-none : (n : ℕ) → sum_over (λ _. 0) n ≡ 0
over-none zero = refl
over-none (suc n) = omega (arith, over-none n)

-- ---- over positions

first-and-others : (f : ℕ → ℕ) (k n : ℕ) → sum_over (λ i. f (k + i)) (suc n) ≡ f k + sum_over (λ i. f (k + 1 + i)) n
first-and-others f k zero =
    let here : k + 0 ≡ k = omega arith in
    omega (arith, ap f here)
first-and-others f k (suc n) =
    let last : k + suc n ≡ k + 1 + n = omega arith in
    omega (arith, ap f last, first-and-others f k n)

sum-range_from : (f : ℕ → ℕ) (k n : ℕ) → sum_each f (range_with_len k n) ≡ sum_over (λ i. f (k + i)) n
sum-range_from f k zero = refl
sum-range_from f k (suc n) = ap (λ m. f k + m) (sum-range_from f (k + 1) n) ∙ sym (first-and-others f k n)

pub sum-range : (f : ℕ → ℕ) (n : ℕ) → sum_each f (range_with_len 0 n) ≡ sum_over f n
sum-range f n = sum-range_from f 0 n ∙ (λ i. sum_over (λ p. f (same p i)) n)
  where
    same : (p : ℕ) → 0 + p ≡ p
    same p = omega arith

-- ---- over stretches of equal positions

abbrev pub pages_of : List Stretch → ℕ
pages_of stretches = sum_each (λ s. s.count) stretches

pages-with_one : (position : ℕ) (stretches : List Stretch) → pages_of (with_one position stretches) ≡ suc (pages_of stretches)
pages-with_one position [] = refl
pages-with_one position (stretch ∷ stretches) = go (stretch.position == position)
  where
    go : (b : Bool) → pages_of (if b then record stretch { count = stretch.count + 1 } ∷ stretches else record { position = position; count = 1 } ∷ stretch ∷ stretches)
        ≡ suc (pages_of (stretch ∷ stretches))
    go true = omega arith
    go false = omega arith

-- the stretches of some positions have as many
pub pages-stretches : (positions : List ℕ) → pages_of (stretches_of positions) ≡ length positions
pages-stretches [] = refl
pages-stretches (position ∷ positions) = pages-with_one position (stretches_of positions) ∙ ap suc (pages-stretches positions)

-- ---- element by element

pub sum-same : {A : Type 0} (f g : A → ℕ) (xs : List A) → ((x : A) → f x ≡ g x) → sum_each f xs ≡ sum_each g xs
sum-same f g xs same = λ i. sum_each (λ x. same x i) xs

pub sum-zero : {A : Type 0} (f : A → ℕ) (xs : List A) → ((x : A) → f x ≡ 0) → sum_each f xs ≡ 0
sum-zero f xs zeros = sum-same f (λ _. 0) xs zeros ∙ sum-none xs

pub over-same : (f g : ℕ → ℕ) (n : ℕ) → ((k : ℕ) → f k ≡ g k) → sum_over f n ≡ sum_over g n
over-same f g n same = λ i. sum_over (λ k. same k i) n

pub over-zero : (f : ℕ → ℕ) (n : ℕ) → ((k : ℕ) → f k ≡ 0) → sum_over f n ≡ 0
over-zero f n zeros = over-same f (λ _. 0) n zeros ∙ over-none n
