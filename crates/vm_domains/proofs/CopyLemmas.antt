-- A list and the copies of its elements.
use Rattle.std.proofs.Common.{◌≡◌, List, [], ◌∷◌, map, refl}
use Rattle.std.specs.List.{AllZip}

pub same-views : {A B : Type 0} (view : A → B) (xs copies : List A) → AllZip (λ x copy. view copy ≡ view x) xs copies → map view copies ≡ map view xs
same-views view [] [] same = refl
same-views view [] (copy ∷ copies) same = absurd same
same-views view (x ∷ xs) [] same = absurd same
same-views view (x ∷ xs) (copy ∷ copies) same = λ i. same.0 i ∷ same-views view xs copies same.1 i
