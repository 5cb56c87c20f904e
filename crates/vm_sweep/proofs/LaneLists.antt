-- Lists of jobs, of results and of their places.
use Rattle.std.proofs.Common.{◌≡◌, ◌≢◌, ◌<◌, ◌≤◌, ◌+◌, ℕ, zero, suc, List, [], ◌∷◌, ◌++◌, map, length, refl, ap, ◌∙◌, arith, subst, set, get_or, Some, slice_get, length-append}
use Rattle.std.specs.List.{All}
use Rattle.std.specs.Prelude.{Option}
use Rattle.std.specs.Option.{option_to_list}
use Rattle.std.proofs.lemmas.List.Elements.{All-pop}
use Rattle.std.proofs.lemmas.Option.{slice_get_within, get_or_from_slice_get, slice_get-get_or}
use Rattle.vm_board.specs.Sums.{total}
use Rattle.vm_board.specs.Values.{values}

-- there are no more numbers than the least number above them
abbrev pub IsSparse : List ℕ → Type 0
IsSparse drawn = (n : ℕ) → All (λ k. k < n) drawn → length drawn ≤ n

pub all_split : {X : Type 0} (P : X → Type 0) (xs : List X) (x : X) → All P (xs ++ x ∷ []) → All P xs × P x
all_split P xs x h = let both = All-pop P (xs ++ x ∷ []) xs (Some x) refl h in (both.0, both.1)

-- what a pop took
pub popped : {X : Type 0} (P : X → Type 0) (xs ys : List X) (r : Option X) (x : X) → xs ≡ ys ++ option_to_list r → r ≡ Some x → All P xs → All P ys × P x
popped P xs ys r x is some h = all_split P ys x (subst (All P) (is ∙ ap (λ o. ys ++ option_to_list o) some) h)

pub took_one : {X : Type 0} (r : Option X) (x : X) (n m : ℕ) → r ≡ Some x → n + length (option_to_list r) ≡ m → n + 1 ≡ m
took_one r x n m some is = let one : length (option_to_list r) ≡ 1 = ap (λ o. length (option_to_list o)) some in omega arith

pub all_at : {X : Type 0} (P : X → Type 0) (xs : List X) (n : ℕ) (x : X) → All P xs → slice_get xs n ≡ Some x → P x
all_at P xs n x h at = subst P (get_or_from_slice_get xs n x x at) (h n x (slice_get_within xs n x at))

pub all_from_at : {X : Type 0} (P : X → Type 0) (xs : List X) → ((n : ℕ) (x : X) → slice_get xs n ≡ Some x → P x) → All P xs
all_from_at P xs h k d less = h k (get_or xs k d) (slice_get-get_or xs k d less)

pub sparse_none : IsSparse []
sparse_none n above = omega arith

pub sparse_snoc : (drawn : List ℕ) (m : ℕ) → All (λ k. k < m) drawn → IsSparse drawn → IsSparse (drawn ++ m ∷ [])
sparse_snoc drawn m above sparse n all = let last : m < n = (all_split (λ k. k < n) drawn m all).1 in let less : length drawn ≤ m = sparse m above in omega (arith, length-append drawn (m ∷ []))

module _ {X : Type 0} (f : X → ℕ) where
  pub total_snoc : (xs : List X) (y : X) → total f (xs ++ y ∷ []) ≡ total f xs + f y
  total_snoc [] y = omega arith
  total_snoc (x ∷ xs) y = let more = total_snoc xs y in omega arith

module _ {X : Type 0} where
  pub got_set_same : (xs : List X) (i : ℕ) (v : X) → i < length xs → slice_get (set xs i v) i ≡ Some v
  got_set_same [] i v less = absurd (omega arith)
  got_set_same (x ∷ xs) zero v less = refl
  got_set_same (x ∷ xs) (suc i) v less = got_set_same xs i v (omega arith)

  pub got_set_other : (xs : List X) (i k : ℕ) (v : X) → k ≢ i → slice_get (set xs i v) k ≡ slice_get xs k
  got_set_other [] i k v ne = refl
  got_set_other (x ∷ xs) zero zero v ne = absurd (ne refl)
  got_set_other (x ∷ xs) zero (suc k) v ne = refl
  got_set_other (x ∷ xs) (suc i) zero v ne = refl
  got_set_other (x ∷ xs) (suc i) (suc k) v ne = got_set_other xs i k v (λ e. ne (omega arith))

  -- where each x has its f in its place, the places have f of each
  pub values_each : {Y : Type 0} (f : X → Y) (xs : List X) (places : List (Option Y)) → length places ≡ length xs
      → ((n : ℕ) (x : X) → slice_get xs n ≡ Some x → slice_get places n ≡ Some (Some (f x))) → values places ≡ map f xs
  values_each f [] [] long each = refl
  values_each f [] (p ∷ places) long each = absurd (omega arith)
  values_each f (x ∷ xs) [] long each = absurd (omega arith)
  values_each f (x ∷ xs) (p ∷ places) long each = let here : p ≡ Some (f x) = some_same (each zero x refl) in
      ap (λ q. values (q ∷ places)) here ∙ ap (λ ys. f x ∷ ys) (values_each f xs places (omega arith) (λ n y at. each (suc n) y at))
    where
      some_same : {Z : Type 0} {a b : Z} → Some a ≡ Some b → a ≡ b
      some_same e = cc
