-- The numbers with which threads passed a gate.
use Rattle.std.proofs.Common.{◌≡◌, ◌+◌, ◌<◌, ℕ, zero, suc, List, [], ◌∷◌, ◌++◌, length, map, arith, ap, refl, ◌∙◌, sym, subst, add-one}
use Rattle.std.specs.List.{All, range_with_len}
use Rattle.std.proofs.lemmas.List.{length-map}
use Rattle.std.proofs.lemmas.List.FromFn.{get_or-range_with_len, length-range_with_len}
use Rattle.std.specs.Prelude.{◌≤◌, nat_eq, nat_lt}
use Rattle.vm_board.specs.States.{PassState}
use Rattle.vm_board.specs.Boards.{EachDrawnOnce}
use Rattle.vm_board.specs.Sums.{total, times, one_if}
use Rattle.vm_board.specs.Gates.{Rises, HasPassed, PassedOnce}
use Rattle.vm_board.proofs.Sums.{all_append, total_snoc}

all_one : {X : Type 0} (P : X → Type 0) (x : X) → P x → All P (x ∷ [])
all_one P x h zero d less = h
all_one P x h (suc k) d less = absurd (omega arith)

-- a number above all that are there comes last
pub rises_more : (ns : List ℕ) (n : ℕ) → All (λ k. k < n) ns → Rises ns → Rises (ns ++ n ∷ [])
rises_more [] n above rise = ((λ k d less. absurd (omega arith)), tt)
rises_more (m ∷ ns) n above rise = (
  all_append (λ k. m < k) ns (n ∷ []) rise.0 (all_one (λ k. m < k) n (above zero m (omega arith))),
  rises_more ns n (λ k d less. above (suc k) d (omega arith)) rise.1,
)

pub total_map : {X Y : Type 0} (f : Y → ℕ) (g : X → Y) (xs : List X) → total f (map g xs) ≡ total (λ x. f (g x)) xs
total_map f g [] = refl
total_map f g (x ∷ xs) = ap (λ k. f (g x) + k) (total_map f g xs)

pub all_map : {X Y : Type 0} (P : Y → Type 0) (g : X → Y) (xs : List X) → All (λ x. P (g x)) xs → All P (map g xs)
all_map P g [] h k d less = absurd (omega arith)
all_map P g (x ∷ xs) h zero d less = h zero x (omega arith)
all_map P g (x ∷ xs) h (suc k) d less = all_map P g xs (λ i e more. h (suc i) e (omega arith)) k d (omega arith)

range_more : (a n j : ℕ) → a + n ≡ j → range_with_len a (suc n) ≡ range_with_len a n ++ j ∷ []
range_more a zero j e = ap (λ k. k ∷ []) (omega arith)
range_more a (suc n) j e = ap (λ l. a ∷ l) (range_more (a + 1) n j (omega arith))

pub range_one_more : (n : ℕ) → range_with_len 0 (n + 1) ≡ range_with_len 0 n ++ n ∷ []
range_one_more n = ap (range_with_len 0) (add-one n) ∙ range_more 0 n n (omega arith)

range_below : (n : ℕ) → All (λ k. k < n) (range_with_len 0 n)
range_below n k d less =
    let long = length-range_with_len 0 n in
    let at = get_or-range_with_len 0 n k d (omega (arith, long, less)) in
    omega (arith, long, at, less)

range_rises : (n : ℕ) → Rises (range_with_len 0 n)
range_rises zero = tt
range_rises (suc n) = subst Rises (sym (range_more 0 n n (omega arith))) (rises_more (range_with_len 0 n) n (range_below n) (range_rises n))

one_more : (m n : ℕ) → one_if (nat_lt m n) + one_if (nat_eq n m) ≡ one_if (nat_lt m (suc n))
one_more m n = grind (arith)

range_once : (m n : ℕ) → times m (range_with_len 0 n) ≡ one_if (nat_lt m n)
range_once m zero = grind (arith)
range_once m (suc n) =
    ap (times m) (range_more 0 n n (omega arith)) ∙ total_snoc (λ k. one_if (nat_eq k m)) (range_with_len 0 n) n
    ∙ ap (λ k. k + one_if (nat_eq n m)) (range_once m n) ∙ one_more m n

module _ {Outside : Type 0} (passed : Outside → List ℕ → Type 0) (workers : ℕ) where
  -- with no number nobody has to pass
  pub passed_none : PassedOnce passed workers 0
  passed_none = record {
    walks = [];
    few = omega arith;
    passed_all = λ k d less. absurd (omega arith);
    rise = λ k d less. absurd (omega arith);
    once = λ n. grind (arith);
  }

  -- each pass passed with the numbers that it drew
  pub passed_once : (count : ℕ) (passes : List PassState) → length passes ≤ workers → All (λ p. HasPassed passed p.drawn) passes
      → All (λ p. Rises p.drawn) passes → EachDrawnOnce count passes → PassedOnce passed workers count
  passed_once count passes few all rise once = record {
    walks = map (λ p. p.drawn) passes;
    few = rw (length-map {A = PassState} {B = List ℕ} passes) few;
    passed_all = all_map (HasPassed passed) (λ p. p.drawn) passes all;
    rise = all_map Rises (λ p. p.drawn) passes rise;
    once = λ n. total_map (times n) (λ (p : PassState). p.drawn) passes ∙ once n;
  }

  -- one thread passed with all numbers in their order
  pub passed_in_order : (count : ℕ) → 1 ≤ workers → HasPassed passed (range_with_len 0 count) → PassedOnce passed workers count
  passed_in_order count some all = record {
    walks = range_with_len 0 count ∷ [];
    few = some;
    passed_all = all_one (HasPassed passed) (range_with_len 0 count) all;
    rise = all_one Rises (range_with_len 0 count) (range_rises count);
    once = λ n. omega (arith, range_once n count);
  }
