-- The values of items, one behind the other.
use Rattle.std.proofs.Common.{◌≡◌, ℕ, suc, zero, ◌+◌, ◌-◌, ◌<◌, ◌≤◌, List, [], ◌∷◌, ◌++◌, length, slice_get, drop, get_or, add-one, refl, ap, ◌∙◌, arith}
use Rattle.std.proofs.lemmas.List.{append-nil, length-append}
use Rattle.std.proofs.lemmas.List.Folds.{concat-append}
use Rattle.std.proofs.Math.Seq.{drop-cons}
use Rattle.std.specs.List.{concat}

pub concat_more : (xss : List (List ℕ)) (xs : List ℕ) → concat (xss ++ xs ∷ []) ≡ concat xss ++ xs
concat_more xss xs = concat-append xss (xs ∷ []) ∙ ap (λ l. concat xss ++ l) (append-nil xs)

pub length-concat_more : (xss : List (List ℕ)) (xs : List ℕ) → length (concat (xss ++ xs ∷ [])) ≡ length (concat xss) + length xs
length-concat_more xss xs = ap length (concat_more xss xs) ∙ length-append (concat xss) xs

-- the value at a place, in front and behind
pub slice_get-front : (xs ys : List ℕ) (i : ℕ) → i < length xs → slice_get (xs ++ ys) i ≡ slice_get xs i
slice_get-front [] ys i h = absurd (omega arith)
slice_get-front (x ∷ xs) ys zero h = refl
slice_get-front (x ∷ xs) ys (suc i) h = slice_get-front xs ys i (omega arith)

pub slice_get-behind : (xs ys : List ℕ) (i : ℕ) → length xs ≤ i → slice_get (xs ++ ys) i ≡ slice_get ys (i - length xs)
slice_get-behind [] ys i h = ap (slice_get ys) (omega arith)
slice_get-behind (x ∷ xs) ys zero h = absurd (omega arith)
slice_get-behind (x ∷ xs) ys (suc i) h = slice_get-behind xs ys i (omega arith) ∙ ap (slice_get ys) (omega arith)

-- the first of the items that are left
pub concat-drop : (xss : List (List ℕ)) (i : ℕ) (d : List ℕ) → i < length xss → concat (drop i xss) ≡ get_or xss i d ++ concat (drop (i + 1) xss)
concat-drop xss i d h = rw add-one (ap concat (drop-cons xss i d h))
