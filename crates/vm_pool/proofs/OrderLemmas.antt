-- A list that is moved onto another from its end, and turned then.
use Rattle.std.proofs.Common.{◌≡◌, List, [], ◌∷◌, ◌++◌, map, sym, ap, ◌∙◌, append_assoc, subst}
use Rattle.std.specs.Prelude.{All, reverse}
use Rattle.std.proofs.lemmas.List.{map-append, reverse-append}
use Rattle.std.proofs.lemmas.List.Elements.{All-cons, All-head, All-nil, All-tail}
use Rattle.vm_pool.specs.declared.slot.Slot.{Slot}

-- what is left, and what was moved the other way round, are the whole
pub last-moves : {A B : Type 0} (f : A → B) (xs rest : List A) (x : A) (ys new : List B) (y : B) (whole : List B) → xs ≡ rest ++ x ∷ [] → new ≡ ys ++ y ∷ [] → y ≡ f x
    → map f xs ++ reverse ys ≡ whole → map f rest ++ reverse new ≡ whole
last-moves f xs rest x ys new y whole left moved is all =
    ap (λ zs. map f rest ++ reverse zs) moved
    ∙ ap (λ zs. map f rest ++ zs) (reverse-append ys (y ∷ []))
    ∙ ap (λ z. map f rest ++ z ∷ reverse ys) is
    ∙ sym (append_assoc (map f rest) (f x ∷ []) (reverse ys))
    ∙ ap (λ zs. zs ++ reverse ys) (sym (map-append f rest (x ∷ [])))
    ∙ ap (λ zs. map f zs ++ reverse ys) (sym left)
    ∙ all

-- a fact of all is one of the last
last-fact : (P : Slot → Type 0) (rest : List Slot) (s : Slot) → All P (rest ++ s ∷ []) → P s
last-fact P [] s all = All-head P s [] all
last-fact P (first ∷ rest) s all = last-fact P rest s (All-tail P first (rest ++ s ∷ []) all)

pub last-has : (P : Slot → Type 0) (slots rest : List Slot) (s : Slot) → slots ≡ rest ++ s ∷ [] → All P slots → P s
last-has P slots rest s is all = last-fact P rest s (subst (All P) is all)

-- and one of the others
others-fact : (P : Slot → Type 0) (rest : List Slot) (s : Slot) → All P (rest ++ s ∷ []) → All P rest
others-fact P [] s all = All-nil P
others-fact P (first ∷ rest) s all =
    All-cons P first rest (All-head P first (rest ++ s ∷ []) all) (others-fact P rest s (All-tail P first (rest ++ s ∷ []) all))

pub others-have : (P : Slot → Type 0) (slots rest : List Slot) (s : Slot) → slots ≡ rest ++ s ∷ [] → All P slots → All P rest
others-have P slots rest s is all = others-fact P rest s (subst (All P) is all)
