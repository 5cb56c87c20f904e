-- The touches that no earlier one makes superfluous by a test.
use Rattle.std.proofs.Common.{◌≡◌, Bool, true, false, ◌||◌, List, [], ◌∷◌, ◌++◌, refl, sym, ap, ◌∙◌, append_assoc, if◌then◌else◌}
use Rattle.std.proofs.lemmas.List.{append-nil}
use Rattle.std.proofs.lemmas.List.Folds.{list_any-append}
use Rattle.std.specs.List.{list_any}
use Rattle.vm_import.specs.declared.touch.Touch.{Touch}
use Rattle.vm_import.specs.Kept.{without_earlier}

or_found : (a b c d : Bool) → (a ≡ true → b ≡ true) → (c ≡ true → d ≡ true) → (a || c) ≡ true → (b || d) ≡ true
or_found true b c d first rest h = ap (λ e. e || d) (first refl)
or_found false true c d first rest h = refl
or_found false false c d first rest h = rest h

-- a test that follows from another one finds something where that does
pub list_any-implied : {A : Type 0} (p q : A → Bool) → ((x : A) → p x ≡ true → q x ≡ true) → (xs : List A) → list_any p xs ≡ true → list_any q xs ≡ true
list_any-implied p q implies [] h = h
list_any-implied p q implies (x ∷ xs) h = or_found (p x) (q x) (list_any p xs) (list_any q xs) (implies x) (list_any-implied p q implies xs) h

cond-append : {A : Type 0} (b : Bool) (x : A) (xs ys : List A) → (if b then xs ++ ys else x ∷ (xs ++ ys)) ≡ (if b then xs else x ∷ xs) ++ ys
cond-append true x xs ys = refl
cond-append false x xs ys = refl

module _ (test : Touch → Touch → Bool) where
  pub without_earlier-append : (before xs ys : List Touch)
      → without_earlier test before (xs ++ ys) ≡ without_earlier test before xs ++ without_earlier test (before ++ xs) ys
  without_earlier-append before [] ys = ap (λ b. without_earlier test b ys) (sym (append-nil before))
  without_earlier-append before (x ∷ xs) ys =
      let c = list_any (λ earlier. test earlier x) before in
      let rest = without_earlier-append (before ++ x ∷ []) xs ys in
      let same : without_earlier test ((before ++ x ∷ []) ++ xs) ys ≡ without_earlier test (before ++ x ∷ xs) ys = ap (λ b. without_earlier test b ys) (append_assoc before (x ∷ []) xs) in
      ap (λ l. if c then l else x ∷ l) rest ∙ cond-append c x (without_earlier test (before ++ x ∷ []) xs) (without_earlier test ((before ++ x ∷ []) ++ xs) ys)
      ∙ ap (λ l. (if c then without_earlier test (before ++ x ∷ []) xs else x ∷ without_earlier test (before ++ x ∷ []) xs) ++ l) same

  -- what of one more touch stays
  pub without_earlier-more : (before xs : List Touch) (t : Touch)
      → without_earlier test before (xs ++ t ∷ []) ≡ without_earlier test before xs ++ (if list_any (λ earlier. test earlier t) (before ++ xs) then [] else t ∷ [])
  without_earlier-more before xs t = without_earlier-append before xs (t ∷ [])

  -- an earlier touch makes a later one superfluous exactly if one that stayed does
  module _ (transitive : (a b c : Touch) → test a b ≡ true → test b c ≡ true → test a c ≡ true) where
    -- a touch that an earlier one makes superfluous makes none superfluous that those before it don't
    superfluous : (before rest : List Touch) (x t : Touch) → list_any (λ e. test e x) before ≡ true
        → list_any (λ e. test e t) (before ++ rest) ≡ list_any (λ e. test e t) (before ++ x ∷ rest)
    superfluous before rest x t h = list_any-append (λ e. test e t) before rest ∙ cases (test x t) refl ∙ sym (list_any-append (λ e. test e t) before (x ∷ rest))
      where
        cases : (b : Bool) → test x t ≡ b → (list_any (λ e. test e t) before || list_any (λ e. test e t) rest) ≡ (list_any (λ e. test e t) before || (test x t || list_any (λ e. test e t) rest))
        cases true now =
            let there = list_any-implied (λ e. test e x) (λ e. test e t) (λ e first. transitive e x t first now) before h in
            ap (λ c. c || list_any (λ e. test e t) rest) there ∙ sym (ap (λ c. c || (test x t || list_any (λ e. test e t) rest)) there)
        cases false now = sym (ap (λ c. list_any (λ e. test e t) before || (c || list_any (λ e. test e t) rest)) now)

    through : (before rest xs : List Touch) (x t : Touch)
        → list_any (λ e. test e t) ((before ++ x ∷ []) ++ rest) ≡ list_any (λ e. test e t) ((before ++ x ∷ []) ++ xs)
        → list_any (λ e. test e t) (before ++ x ∷ rest) ≡ list_any (λ e. test e t) (before ++ x ∷ xs)
    through before rest xs x t induction =
        sym (ap (list_any (λ e. test e t)) (append_assoc before (x ∷ []) rest)) ∙ induction ∙ ap (list_any (λ e. test e t)) (append_assoc before (x ∷ []) xs)

    stayed : (before rest xs : List Touch) (x t : Touch)
        → list_any (λ e. test e t) ((before ++ x ∷ []) ++ rest) ≡ list_any (λ e. test e t) ((before ++ x ∷ []) ++ xs)
        → (c : Bool) → list_any (λ e. test e x) before ≡ c
        → list_any (λ e. test e t) (before ++ (if c then rest else x ∷ rest)) ≡ list_any (λ e. test e t) (before ++ x ∷ xs)
    stayed before rest xs x t induction true h = superfluous before rest x t h ∙ through before rest xs x t induction
    stayed before rest xs x t induction false h = through before rest xs x t induction

    pub list_any-without_earlier : (before xs : List Touch) (t : Touch)
        → list_any (λ e. test e t) (before ++ without_earlier test before xs) ≡ list_any (λ e. test e t) (before ++ xs)
    list_any-without_earlier before [] t = refl
    list_any-without_earlier before (x ∷ xs) t =
        stayed before (without_earlier test (before ++ x ∷ []) xs) xs x t (list_any-without_earlier (before ++ x ∷ []) xs t) (list_any (λ e. test e x) before) refl
