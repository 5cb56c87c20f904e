-- Lists from a place on.
use Rattle.std.proofs.Common.{◌≡◌, ℕ, zero, suc, ◌+◌, ◌<◌, List, [], ◌∷◌, drop, length, Option, Some, None, add-one, drop-cons, ap, ◌∙◌}
use Rattle.std.specs.Prelude.{slice_get, unwrap_or}
use Rattle.std.proofs.Math.Seq.{drop-nil}
use Rattle.std.proofs.lemmas.Option.{unwrap_or-slice_get, slice_get_within}

-- the element at a place comes first
pub drop_at : {X : Type 0} (xs : List X) (i : ℕ) (d : X) → i < length xs → drop i xs ≡ unwrap_or (slice_get xs i) d ∷ drop (i + 1) xs
drop_at xs i d h = rw (add-one, unwrap_or-slice_get) (drop-cons xs i d h)

pub drop_some : {X : Type 0} (xs : List X) (i : ℕ) (x : X) → slice_get xs i ≡ Some x → drop i xs ≡ x ∷ drop (i + 1) xs
drop_some {X} xs i x there =
    drop_at xs i x (slice_get_within xs i x there) ∙ ap (λ (found : Option X). unwrap_or found x ∷ drop (i + 1) xs) there

-- behind the last one there is nothing
pub drop_none : {X : Type 0} (xs : List X) (i : ℕ) → slice_get xs i ≡ None → drop i xs ≡ []
drop_none [] i none = drop-nil i
drop_none (x ∷ xs) zero none = absurd (cc)
drop_none (x ∷ xs) (suc i) none = drop_none xs i none

pub drop_none_next : {X : Type 0} (xs : List X) (i : ℕ) → slice_get xs i ≡ None → drop (suc i) xs ≡ []
drop_none_next [] i none = drop-nil (suc i)
drop_none_next (x ∷ xs) zero none = absurd (cc)
drop_none_next (x ∷ xs) (suc i) none = drop_none_next xs i none
