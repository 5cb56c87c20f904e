-- Numbers in order: two lists of the same numbers, each in order, are one.
use Rattle.std.proofs.Common.{◌≡◌, ◌∙◌, ℕ, ◌+◌, ◌-◌, ◌<◌, ◌≤◌, Bool, true, false, List, [], ◌∷◌, ap, arith, get_or, inl, inr, length, refl, suc, sym, zero}
use Rattle.std.specs.Prelude.{⊤, IsPermutation, if◌then◌else◌, nat_le}
use Rattle.std.specs.List.{sum_by}
use Rattle.std.specs.List.Sorted.{IsNonDecreasing}
use Rattle.std.proofs.lemmas.Bool.{cases_lt, leb-true}
use Rattle.std.proofs.lemmas.Bool.Decides.{leb_tells}
use Rattle.std.proofs.lemmas.List.Sorted.{IsPermutation-cons, IsPermutation-middle, IsPermutation-refl, IsPermutation-sym, IsPermutation-trans, length_permutation, sum_by-IsPermutation}
use Rattle.std.proofs.lemmas.List.Sums.{sum_by-cons}
use Rattle.vm_sweep.specs.Medians.{in_order, placed}

-- ---- lists in order, by recursion

-- all are at least x
abbrev AreAtLeast : (x : ℕ) → List ℕ → Type 0
AreAtLeast x [] = ⊤
AreAtLeast x (y ∷ ys) = (x ≤ y) × AreAtLeast x ys

abbrev Rise : List ℕ → Type 0
Rise [] = ⊤
Rise (x ∷ xs) = AreAtLeast x xs × Rise xs

weaker : (x y : ℕ) (ys : List ℕ) → x ≤ y → AreAtLeast y ys → AreAtLeast x ys
weaker x y [] le at_least = tt
weaker x y (z ∷ zs) le at_least = (omega (arith, le, at_least.0), weaker x y zs le at_least.1)

at_least-by_index : (x : ℕ) (ys : List ℕ) → ((j : ℕ) (d : ℕ) → j < length ys → x ≤ get_or ys j d) → AreAtLeast x ys
at_least-by_index x [] each = tt
at_least-by_index x (y ∷ ys) each =
    (each 0 0 (omega arith), at_least-by_index x ys (λ j d lt. each (suc j) d (omega (arith, lt))))

rise-by_index : (xs : List ℕ) → IsNonDecreasing xs → Rise xs
rise-by_index [] rises = tt
rise-by_index (x ∷ xs) rises = (
  at_least-by_index x xs (λ j d lt. rises 0 (suc j) d (omega arith) (omega (arith, lt))),
  rise-by_index xs (λ i j d le lt. rises (suc i) (suc j) d (omega (arith, le)) (omega (arith, lt))),
)

-- ---- a number that is placed

placed-at_least : (b : Bool) (x n y : ℕ) (ys : List ℕ) → x ≤ n → AreAtLeast x (y ∷ ys) → AreAtLeast x (placed n ys)
    → AreAtLeast x (if b then n ∷ y ∷ ys else y ∷ placed n ys)
placed-at_least true x n y ys le at_least rest = (le, at_least)
placed-at_least false x n y ys le at_least rest = (at_least.0, rest)

at_least-placed : (x n : ℕ) (ys : List ℕ) → x ≤ n → AreAtLeast x ys → AreAtLeast x (placed n ys)
at_least-placed x n [] le at_least = (le, tt)
at_least-placed x n (y ∷ ys) le at_least =
    placed-at_least (nat_le n y) x n y ys le at_least (at_least-placed x n ys le at_least.1)

above : (n y : ℕ) → nat_le n y ≡ false → y ≤ n
above n y is =
    elim (leb_tells n y) [
      | inl tells ↦ absurd cc
      | inr tells ↦ omega (arith, tells.1)
    ]

rise-if : (b : Bool) (n y : ℕ) (ys : List ℕ) → nat_le n y ≡ b → Rise (y ∷ ys) → Rise (placed n ys) → Rise (if b then n ∷ y ∷ ys else y ∷ placed n ys)
rise-if true n y ys is rise rest = ((leb-true n y is, weaker n y ys (leb-true n y is) rise.0), rise)
rise-if false n y ys is rise rest = (at_least-placed y n ys (above n y is) rise.0, rest)

rise-placed : (n : ℕ) (ys : List ℕ) → Rise ys → Rise (placed n ys)
rise-placed n [] rise = (tt, tt)
rise-placed n (y ∷ ys) rise = rise-if (nat_le n y) n y ys refl rise (rise-placed n ys rise.1)

-- ---- how many numbers are below another one

-- 1 where x is below t, else 0
abbrev one_below : (t x : ℕ) → ℕ
one_below t x = 1 - (1 - (t - x))

abbrev below : (t : ℕ) → List ℕ → ℕ
below t [] = 0
below t (x ∷ xs) = one_below t x + below t xs

below-if : (b : Bool) (t n y : ℕ) (ys : List ℕ) → below t (placed n ys) ≡ one_below t n + below t ys
    → below t (if b then n ∷ y ∷ ys else y ∷ placed n ys) ≡ one_below t n + (one_below t y + below t ys)
below-if true t n y ys rest = refl
below-if false t n y ys rest = omega (arith, rest)

below-placed : (t n : ℕ) (ys : List ℕ) → below t (placed n ys) ≡ one_below t n + below t ys
below-placed t n [] = refl
below-placed t n (y ∷ ys) = below-if (nat_le n y) t n y ys (below-placed t n ys)

length-if : (b : Bool) (n y : ℕ) (ys : List ℕ) → length (placed n ys) ≡ suc (length ys)
    → length (if b then n ∷ y ∷ ys else y ∷ placed n ys) ≡ suc (suc (length ys))
length-if true n y ys rest = refl
length-if false n y ys rest = ap suc rest

length-placed : (n : ℕ) (ys : List ℕ) → length (placed n ys) ≡ suc (length ys)
length-placed n [] = refl
length-placed n (y ∷ ys) = length-if (nat_le n y) n y ys (length-placed n ys)

none_below : (t : ℕ) (xs : List ℕ) → AreAtLeast t xs → below t xs ≡ 0
none_below t [] at_least = refl
none_below t (x ∷ xs) at_least = omega (arith, at_least.0, none_below t xs at_least.1)

below-sum : (t : ℕ) (xs : List ℕ) → below t xs ≡ sum_by (one_below t) xs
below-sum t [] = refl
below-sum t (x ∷ xs) = ap (λ (n : ℕ). one_below t x + n) (below-sum t xs) ∙ sym (sum_by-cons (one_below t) x xs)

-- ---- numbers that are put in order

in_order-rises : (xs : List ℕ) → Rise (in_order xs)
unfolding in_order
in_order-rises [] = tt
in_order-rises (x ∷ xs) = rise-placed x (in_order xs) (in_order-rises xs)

in_order-below : (t : ℕ) (xs : List ℕ) → below t (in_order xs) ≡ below t xs
unfolding in_order
in_order-below t [] = refl
in_order-below t (x ∷ xs) = below-placed t x (in_order xs) ∙ ap (λ (n : ℕ). one_below t x + n) (in_order-below t xs)

in_order-length : (xs : List ℕ) → length (in_order xs) ≡ length xs
unfolding in_order
in_order-length [] = refl
in_order-length (x ∷ xs) = length-placed x (in_order xs) ∙ ap suc (in_order-length xs)

-- ---- one list

-- of two lists that have as many numbers below any number the first of one is not below the first of the other
not_below : (x y : ℕ) (xs ys : List ℕ) → AreAtLeast y ys → ((t : ℕ) → below t (x ∷ xs) ≡ below t (y ∷ ys)) → y ≤ x
not_below x y xs ys at_least same =
    elim (cases_lt x y) [
      | inl less ↦ absurd (omega (arith, less, same y, none_below y ys at_least))
      | inr no_less ↦ no_less
    ]

same-first : (x y : ℕ) (xs ys : List ℕ) → Rise (x ∷ xs) → Rise (y ∷ ys) → ((t : ℕ) → below t (x ∷ xs) ≡ below t (y ∷ ys)) → x ≡ y
same-first x y xs ys rise rise_too same =
    omega (arith, not_below x y xs ys rise_too.0 same, not_below y x ys xs rise.0 (λ t. sym (same t)))

same-rest : (x y t : ℕ) (xs ys : List ℕ) → x ≡ y → below t (x ∷ xs) ≡ below t (y ∷ ys) → below t xs ≡ below t ys
same-rest x y t xs ys is same = omega (arith, same, ap (one_below t) is)

one-list : (xs ys : List ℕ) → Rise xs → Rise ys → length xs ≡ length ys → ((t : ℕ) → below t xs ≡ below t ys) → xs ≡ ys
one-list [] [] rise rise_too long same = refl
one-list [] (y ∷ ys) rise rise_too long same = absurd (omega (arith, long))
one-list (x ∷ xs) [] rise rise_too long same = absurd (omega (arith, long))
one-list (x ∷ xs) (y ∷ ys) rise rise_too long same =
    let is = same-first x y xs ys rise rise_too same in
    (λ i. is i ∷ one-list xs ys rise.1 rise_too.1 (omega (arith, long)) (λ t. same-rest x y t xs ys is (same t)) i)

-- a list that has the numbers of another one in order
pub ordered : (xs ys : List ℕ) → IsPermutation xs ys → IsNonDecreasing ys → ys ≡ in_order xs
ordered xs ys moved rises =
    one-list ys (in_order xs) (rise-by_index ys rises) (in_order-rises xs)
    (length_permutation xs ys moved ∙ sym (in_order-length xs))
    (λ t. below-sum t ys ∙ sum_by-IsPermutation (one_below t) xs ys moved ∙ sym (below-sum t xs) ∙ sym (in_order-below t xs))

-- ---- what being in order means

at_least-at : (x : ℕ) (ys : List ℕ) → AreAtLeast x ys → (j d : ℕ) → j < length ys → x ≤ get_or ys j d
at_least-at x [] at_least j d lt = absurd (omega (arith, lt))
at_least-at x (y ∷ ys) at_least zero d lt = at_least.0
at_least-at x (y ∷ ys) at_least (suc j) d lt = at_least-at x ys at_least.1 j d (omega (arith, lt))

by_index : (xs : List ℕ) → Rise xs → IsNonDecreasing xs
by_index [] rise i j d le lt = absurd (omega (arith, lt))
by_index (x ∷ xs) rise zero zero d le lt = omega arith
by_index (x ∷ xs) rise zero (suc j) d le lt = at_least-at x xs rise.0 j d (omega (arith, lt))
by_index (x ∷ xs) rise (suc i) zero d le lt = absurd (omega (arith, le))
by_index (x ∷ xs) rise (suc i) (suc j) d le lt = by_index xs rise.1 i j d (omega (arith, le)) (omega (arith, lt))

pub in_order-non_decreasing : (xs : List ℕ) → IsNonDecreasing (in_order xs)
in_order-non_decreasing xs = by_index (in_order xs) (in_order-rises xs)

moved-if : (b : Bool) (n y : ℕ) (ys : List ℕ) → IsPermutation (n ∷ ys) (placed n ys)
    → IsPermutation (n ∷ y ∷ ys) (if b then n ∷ y ∷ ys else y ∷ placed n ys)
moved-if true n y ys rest = IsPermutation-refl (n ∷ y ∷ ys)
moved-if false n y ys rest =
    IsPermutation-trans (n ∷ y ∷ ys) (y ∷ n ∷ ys) (y ∷ placed n ys)
    (IsPermutation-sym (y ∷ n ∷ ys) (n ∷ y ∷ ys) (IsPermutation-middle (y ∷ []) n ys)) (IsPermutation-cons y (n ∷ ys) (placed n ys) rest)

moved-placed : (n : ℕ) (ys : List ℕ) → IsPermutation (n ∷ ys) (placed n ys)
moved-placed n [] = IsPermutation-refl (n ∷ [])
moved-placed n (y ∷ ys) = moved-if (nat_le n y) n y ys (moved-placed n ys)

pub in_order-moved : (xs : List ℕ) → IsPermutation xs (in_order xs)
unfolding in_order
in_order-moved [] = IsPermutation-refl []
in_order-moved (x ∷ xs) =
    IsPermutation-trans (x ∷ xs) (x ∷ in_order xs) (placed x (in_order xs))
    (IsPermutation-cons x xs (in_order xs) (in_order-moved xs)) (moved-placed x (in_order xs))
