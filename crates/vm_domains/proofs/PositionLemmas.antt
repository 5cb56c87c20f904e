-- The first place at which a test passes, in a list and in what is made of it.
use Rattle.std.proofs.Common.{◌≡◌, ℕ, ◌+◌, Bool, List, [], ◌∷◌, map, cond, Some, refl, sym, ap, ◌∙◌}
use Rattle.std.specs.Prelude.{position}
use Rattle.std.specs.List.{position_from}
use Rattle.std.proofs.lemmas.Iterator.Adapters.{position_from-zero}

position_from-map : {A B : Type 0} (test : B → Bool) (f : A → B) (place : ℕ) (xs : List A)
    → position_from test place (map f xs) ≡ position_from (λ x. test (f x)) place xs
position_from-map test f place [] = refl
position_from-map test f place (x ∷ xs) = ap (λ rest. cond (test (f x)) (Some place) rest) (position_from-map test f (place + 1) xs)

pub position-map : {A B : Type 0} (test : B → Bool) (f : A → B) (xs : List A) → position test (map f xs) ≡ position (λ x. test (f x)) xs
position-map test f xs =
    position_from-zero test (map f xs) ∙ position_from-map test f 0 xs ∙ sym (position_from-zero (λ x. test (f x)) xs)
