-- What is remembered is found by its name.
use Rattle.std.proofs.Common.{◌≡◌, ◌∙◌, ℕ, zero, suc, ◌<◌, Bool, true, false, List, [], ◌∷◌, bytes_eq, Option, None, get_or, length, sym, refl, ap, arith, if◌then◌else◌}
use Rattle.vm_steer.specs.Entries.{EntryView, names_in, remembered_at, remembered_in, remembered_of}
use Rattle.vm_steer.specs.Names.{is_before, place_of, stands_at, AreRising}
use Rattle.vm_steer.specs.Remembered.{RememberedView}
use Rattle.vm_steer.proofs.NameLemmas.{before_back, before_differs, before_upto, behind, rising_tail}

-- behind a name that it stands in front of, a name isn't found
none_remembered : (e : EntryView) (es : List EntryView) (name : List ℕ) → AreRising (names_in (e ∷ es)) → is_before name e.name ≡ true → remembered_in es name ≡ None
none_remembered e [] name r f = refl
none_remembered e (x ∷ es) name r f =
    let front : is_before name x.name ≡ true = before_upto name e.name x.name f (r.rise 0 1 (omega arith) (omega arith)) in
    let no : bytes_eq x.name name ≡ false = before_back x.name name front in
    rw no (none_remembered x es name (rising_tail e.name (names_in (x ∷ es)) r) front)

found : List EntryView → List ℕ → Option RememberedView
found es name = if stands_at (names_in es) (place_of (names_in es) name) name then remembered_at es (place_of (names_in es) name) else None

remembered_is : (es : List EntryView) (name : List ℕ) → AreRising (names_in es) → remembered_in es name ≡ found es name
unfolding found
remembered_is [] name r = refl
remembered_is (e ∷ es) name r = go (remembered_is es name (rising_tail e.name (names_in es) r)) (is_before e.name name) refl
  where
    here : (t : Bool) → bytes_eq e.name name ≡ t → is_before e.name name ≡ false → remembered_in (e ∷ es) name ≡ (if bytes_eq e.name name then remembered_of e.fate else None)
    here true g f = rw g refl
    here false g f = rw g (none_remembered e es name r (behind e.name name f g))

    go : remembered_in es name ≡ found es name → (t : Bool) → is_before e.name name ≡ t → remembered_in (e ∷ es) name ≡ found (e ∷ es) name
    go later true f =
        let no : bytes_eq e.name name ≡ false = before_differs e.name name f in
        rw (f, no) later
    go later false f = rw f (here (bytes_eq e.name name) refl f)

-- a name that stands at a place, and one that doesn't
pub remembered_there : (es : List EntryView) (names : List (List ℕ)) (name : List ℕ) (place : ℕ) → AreRising (names_in es) → names ≡ names_in es → place ≡ place_of names name
    → stands_at names place name ≡ true → remembered_at es place ≡ remembered_in es name
unfolding found
remembered_there es names name place r same is at =
    let p : place ≡ place_of (names_in es) name = is ∙ ap (λ ns. place_of ns name) same in
    let yes : stands_at (names_in es) (place_of (names_in es) name) name ≡ true = (λ i. stands_at (sym same i) (sym p i) name) ∙ at in
    ap (remembered_at es) p ∙ sym (remembered_is es name r ∙ ap (λ t. if t then remembered_at es (place_of (names_in es) name) else None) yes)

pub remembered_not : (es : List EntryView) (names : List (List ℕ)) (name : List ℕ) (place : ℕ) → AreRising (names_in es) → names ≡ names_in es → place ≡ place_of names name
    → stands_at names place name ≡ false → None ≡ remembered_in es name
unfolding found
remembered_not es names name place r same is at =
    let p : place ≡ place_of (names_in es) name = is ∙ ap (λ ns. place_of ns name) same in
    let no : stands_at (names_in es) (place_of (names_in es) name) name ≡ false = (λ i. stands_at (sym same i) (sym p i) name) ∙ at in
    sym (remembered_is es name r ∙ ap (λ t. if t then remembered_at es (place_of (names_in es) name) else None) no)

pub remembered_read : (es : List EntryView) (place : ℕ) (e : EntryView) → place < length es → e ≡ get_or es place e → remembered_of e.fate ≡ remembered_at es place
remembered_read [] place e h is = absurd (omega arith)
remembered_read (x ∷ es) zero e h is = ap (λ (y : EntryView). remembered_of y.fate) is
remembered_read (x ∷ es) (suc place) e h is = remembered_read es place e (omega arith) is
