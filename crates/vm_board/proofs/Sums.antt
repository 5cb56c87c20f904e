-- What a change of one element, or of the length, does to a sum.
use Rattle.std.proofs.Common.{◌≡◌, ◌+◌, ◌-◌, ◌<◌, ◌≤◌, ℕ, zero, suc, List, [], ◌∷◌, ◌++◌, length, get_or, set, max, refl, sym, ap, subst, arith}
use Rattle.std.proofs.lemmas.Bool.{eq-eqb}
use Rattle.std.specs.Prelude.{nat_eq}
use mathlib.Core.Option.{some, some-injective, some-ne-none}
use Rattle.std.specs.List.{All}
use lib.ListN.{get_elem?}
use Rattle.vm_board.specs.Sums.{total, times, one_if}

module _ {X : Type 0} (f : X → ℕ) where
  pub total_set : (xs : List X) (i : ℕ) (v w : X) → get_elem? xs i ≡ some v → total f (set xs i w) + f v ≡ total f xs + f w
  total_set [] i v w at = absurd (some-ne-none v (sym at))
  total_set (x ∷ xs) zero v w at = let same : f x ≡ f v = ap f (some-injective x v at) in omega arith
  total_set (x ∷ xs) (suc i) v w at = let more = total_set xs i v w at in omega arith

  pub total_at : (xs : List X) (i : ℕ) (v : X) → get_elem? xs i ≡ some v → f v ≤ total f xs
  total_at [] i v at = absurd (some-ne-none v (sym at))
  total_at (x ∷ xs) zero v at = let same : f x ≡ f v = ap f (some-injective x v at) in omega arith
  total_at (x ∷ xs) (suc i) v at = let more = total_at xs i v at in omega arith

  pub total_append : (xs ys : List X) → total f (xs ++ ys) ≡ total f xs + total f ys
  total_append [] ys = omega arith
  total_append (x ∷ xs) ys = let more = total_append xs ys in omega arith

  pub total_snoc : (xs : List X) (y : X) → total f (xs ++ y ∷ []) ≡ total f xs + f y
  total_snoc xs y = let more = total_append xs (y ∷ []) in omega arith

module _ {X : Type 0} (f g : X → ℕ) where
  pub total_le : ((x : X) → f x ≤ g x) → (xs : List X) → total f xs ≤ total g xs
  total_le le [] = omega arith
  total_le le (x ∷ xs) = let one = le x in let more = total_le le xs in omega arith

  -- f is 0 wherever g is
  total_none : (xs : List X) → ((k : ℕ) (x : X) → get_elem? xs k ≡ some x → g x ≡ 0 → f x ≡ 0) → total g xs ≡ 0 → total f xs ≡ 0
  total_none [] h none = refl
  total_none (x ∷ xs) h none = let one : f x ≡ 0 = h zero x refl (omega arith) in let more : total f xs ≡ 0 = total_none xs (λ k y at. h (suc k) y at) (omega arith) in omega arith

  -- one element has the whole sum of g, so it has the whole sum of f
  pub total_alone : (xs : List X) (i : ℕ) (v : X) → ((k : ℕ) (x : X) → get_elem? xs k ≡ some x → g x ≡ 0 → f x ≡ 0) → get_elem? xs i ≡ some v → total g xs ≡ g v → total f xs ≡ f v
  total_alone [] i v h at whole = absurd (some-ne-none v (sym at))
  total_alone (x ∷ xs) zero v h at whole = let same : x ≡ v = some-injective x v at in let gs : g x ≡ g v = ap g same in let fs : f x ≡ f v = ap f same in
      let more : total f xs ≡ 0 = total_none xs (λ k y at'. h (suc k) y at') (omega arith) in omega arith
  total_alone (x ∷ xs) (suc i) v h at whole = let least = total_at g xs i v at in let one : f x ≡ 0 = h zero x refl (omega arith) in
      let more : total f xs ≡ f v = total_alone xs i v (λ k y at'. h (suc k) y at') at (omega arith) in omega arith

pub one_same : (x m : ℕ) → x ≡ m → one_if (nat_eq x m) ≡ 1
one_same x m e = ap one_if (eq-eqb x m e)

times_head : (m x : ℕ) (xs : List ℕ) → x ≡ m → 0 < times m (x ∷ xs)
times_head m x xs e = let one = one_same x m e in omega arith

pub times_at : (xs : List ℕ) (k d : ℕ) → k < length xs → 0 < times (get_or xs k d) xs
times_at [] k d less = absurd (omega arith)
times_at (x ∷ xs) zero d less = times_head x x xs refl
times_at (x ∷ xs) (suc k) d less = let more = times_at xs k d (omega arith) in omega arith

all_cons : {X : Type 0} (P : X → Type 0) (x : X) (xs : List X) → P x → All P xs → All P (x ∷ xs)
all_cons P x xs here h zero d less = here
all_cons P x xs here h (suc k) d less = h k d (omega arith)

pub all_split : {X : Type 0} (P : X → Type 0) (xs : List X) (x : X) → All P (xs ++ x ∷ []) → All P xs × P x
all_split P [] x h = ((λ k d less. absurd (omega arith)), h zero x (omega arith))
all_split P (y ∷ ys) x h = let more = all_split P ys x (λ k d less. h (suc k) d (omega arith)) in (all_cons P y ys (h zero y (omega arith)) more.0, more.1)

-- the least number above those of the list
abbrev pub past : List ℕ → ℕ
past [] = 0
past (x ∷ xs) = max (x + 1) (past xs)

pub past_all : (xs : List ℕ) (n : ℕ) → All (λ k. k < n) xs → past xs ≤ n
past_all [] n h = omega arith
past_all (x ∷ xs) n h = let one : x < n = h zero x (omega arith) in let more = past_all xs n (λ k d less. h (suc k) d (omega arith)) in omega arith

pub past_snoc : (xs : List ℕ) (n : ℕ) → n < past (xs ++ n ∷ [])
past_snoc [] n = omega arith
past_snoc (x ∷ xs) n = let more = past_snoc xs n in omega arith

-- a list of numbers below c that rises comes to its end
pub closer : (c n : ℕ) (was now : List ℕ) → now ≡ was ++ n ∷ [] → All (λ k. k < n) was → n < c → c - past now < c - past was
closer c n was now is above less = let old : past was ≤ n = past_all was n above in let new : n < past (was ++ n ∷ []) = past_snoc was n in let more : past now ≡ past (was ++ n ∷ []) = ap past is in omega arith

pub all_append : {X : Type 0} (P : X → Type 0) (xs ys : List X) → All P xs → All P ys → All P (xs ++ ys)
all_append P [] ys h k = k
all_append P (x ∷ xs) ys h k = all_cons P x (xs ++ ys) (h zero x (omega arith)) (all_append P xs ys (λ i d less. h (suc i) d (omega arith)) k)

-- one more that has it, behind those that have it
pub all_pushed : {X : Type 0} (P : X → Type 0) (xs ys : List X) (x : X) → ys ≡ xs ++ x ∷ [] → All P xs → P x → All P ys
all_pushed P xs ys x is h here = subst (All P) (sym is) (all_append P xs (x ∷ []) h (all_cons P x [] here (λ k d less. absurd (omega arith))))

pub all_none : {X : Type 0} (P : X → Type 0) (xs : List X) → xs ≡ [] → All P xs
all_none P xs none = subst (All P) (sym none) (λ k d less. absurd (omega arith))
