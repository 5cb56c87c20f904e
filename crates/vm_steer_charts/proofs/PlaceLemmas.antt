-- Names in order: where they stand, and one more.
use Rattle.std.proofs.Common.{◌≡◌, ◌∙◌, ℕ, zero, suc, ◌+◌, ◌<◌, Bool, true, false, Option, Some, None, List, [], ◌∷◌, bytes_eq, drop, get_or, length, map, sym, refl, ap, subst, arith, if◌then◌else◌}
use Rattle.std.specs.List.{insert}
use Rattle.vm_samples.specs.Samples.{DomainView}
use Rattle.vm_steer.specs.Names.{is_before, place_of, stands_at, AreRising}
use Rattle.vm_steer.specs.Order.{names_of}
use Rattle.vm_steer.proofs.NameLemmas.{before_back, before_differs, before_upto, behind, rising_tail}
use Rattle.vm_steer.proofs.OrderLemmas.{placed_both, placed_rising}
use Rattle.vm_steer_charts.specs.declared.rows.Numbers.{Numbers}
use Rattle.vm_steer_charts.specs.Values.{found_at, numbers_at, numbers_named, with_domains, with_name, with_steered}

-- ---- one name more

-- it stays where it stands, and else it is put at its place
pub with_name_is : (names : List (List ℕ)) (name : List ℕ)
    → with_name name names ≡ (if stands_at names (place_of names name) name then names else insert names (place_of names name) name)
with_name_is [] name = refl
with_name_is (n ∷ names) name = go (with_name_is names name) (is_before n name) refl
  where
    chosen : (t : Bool) (kept put : List (List ℕ)) → n ∷ (if t then kept else put) ≡ (if t then n ∷ kept else n ∷ put)
    chosen true kept put = refl
    chosen false kept put = refl

    go : with_name name names ≡ (if stands_at names (place_of names name) name then names else insert names (place_of names name) name)
        → (t : Bool) → is_before n name ≡ t
        → with_name name (n ∷ names) ≡ (if stands_at (n ∷ names) (place_of (n ∷ names) name) name then n ∷ names else insert (n ∷ names) (place_of (n ∷ names) name) name)
    go later true f = rw f (ap (λ l. n ∷ l) later ∙ chosen (stands_at names (place_of names name) name) names (insert names (place_of names name) name))
    go later false f = rw f refl

pub added_there : (names : List (List ℕ)) (name : List ℕ) (place : ℕ) → place ≡ place_of names name → stands_at names place name ≡ true → names ≡ with_name name names
added_there names name place is at =
    let yes : stands_at names (place_of names name) name ≡ true = ap (λ p. stands_at names p name) (sym is) ∙ at in
    sym (with_name_is names name ∙ ap (λ t. if t then names else insert names (place_of names name) name) yes)

pub added_here : (names : List (List ℕ)) (name : List ℕ) (place : ℕ) → place ≡ place_of names name → stands_at names place name ≡ false → insert names place name ≡ with_name name names
added_here names name place is at =
    let no : stands_at names (place_of names name) name ≡ false = ap (λ p. stands_at names p name) (sym is) ∙ at in
    ap (λ p. insert names p name) is ∙ sym (with_name_is names name ∙ ap (λ t. if t then names else insert names (place_of names name) name) no)

named : List ℕ → DomainView
named name = record { name = name; state = None; current = None; maximum = None; usable = None; unused = None; swap_in = None }

named_are : (names : List (List ℕ)) → names ≡ names_of (map named names)
unfolding named
named_are [] = refl
named_are (n ∷ names) = ap (λ l. n ∷ l) (named_are names)

pub inserted_rising : (names : List (List ℕ)) (name : List ℕ) (place : ℕ) → place ≡ place_of names name → AreRising names → AreRising (insert names place name)
unfolding named
inserted_rising names name place is r =
    let both = placed_both (named name) names (map named names) place (named_are names) is in
    subst AreRising (sym (both.1 ∙ ap names_of both.0)) (placed_rising (named name) (map named names) (subst AreRising (named_are names) r))

-- ---- the numbers at the place of a name

none_named : (n : List ℕ) (names : List (List ℕ)) (numbers : List (Option Numbers)) (name : List ℕ) → AreRising (n ∷ names) → is_before name n ≡ true → numbers_named name names numbers ≡ None
none_named n [] numbers name r f = refl
none_named n (m ∷ names) [] name r f = refl
none_named n (m ∷ names) (x ∷ numbers) name r f =
    let front : is_before name m ≡ true = before_upto name n m f (r.rise 0 1 (omega arith) (omega arith)) in
    let no : bytes_eq m name ≡ false = before_back m name front in
    rw no (none_named m names numbers name (rising_tail n (m ∷ names) r) front)

at_place : List (List ℕ) → List (Option Numbers) → List ℕ → Option Numbers
at_place names numbers name = if stands_at names (place_of names name) name then numbers_at numbers (place_of names name) else None

either_none : (t : Bool) → ◌≡◌ {A = Option Numbers} (if t then None else None) None
either_none true = refl
either_none false = refl

named_is : (names : List (List ℕ)) (numbers : List (Option Numbers)) (name : List ℕ) → AreRising names → numbers_named name names numbers ≡ at_place names numbers name
unfolding at_place
named_is [] numbers name r = refl
named_is (n ∷ names) [] name r = sym (either_none (stands_at (n ∷ names) (place_of (n ∷ names) name) name))
named_is (n ∷ names) (x ∷ numbers) name r = go (named_is names numbers name (rising_tail n names r)) (is_before n name) refl
  where
    here : (t : Bool) → bytes_eq n name ≡ t → is_before n name ≡ false → numbers_named name (n ∷ names) (x ∷ numbers) ≡ (if bytes_eq n name then x else None)
    here true g f = rw g refl
    here false g f = rw g (none_named n names numbers name r (behind n name f g))

    go : numbers_named name names numbers ≡ at_place names numbers name → (t : Bool) → is_before n name ≡ t
        → numbers_named name (n ∷ names) (x ∷ numbers) ≡ at_place (n ∷ names) (x ∷ numbers) name
    go later true f =
        let no : bytes_eq n name ≡ false = before_differs n name f in
        rw (f, no) later
    go later false f = rw f (here (bytes_eq n name) refl f)

pub named_there : (names : List (List ℕ)) (numbers : List (Option Numbers)) (name : List ℕ) (place : ℕ) → AreRising names → Some place ≡ found_at names name
    → numbers_at numbers place ≡ numbers_named name names numbers
unfolding at_place
named_there names numbers name place r is = go (stands_at names (place_of names name) name) refl
  where
    go : (t : Bool) → stands_at names (place_of names name) name ≡ t → numbers_at numbers place ≡ numbers_named name names numbers
    go true e =
        let at : Some place ≡ Some (place_of names name) = is ∙ ap (λ t. if t then Some (place_of names name) else None) e in
        let same : place ≡ place_of names name = cc in
        ap (numbers_at numbers) same
        ∙ sym (named_is names numbers name r ∙ ap (λ t. if t then numbers_at numbers (place_of names name) else None) e)
    go false e =
        let not : Some place ≡ None = is ∙ ap (λ t. if t then Some (place_of names name) else None) e in
        absurd cc

pub named_not : (names : List (List ℕ)) (numbers : List (Option Numbers)) (name : List ℕ) → AreRising names → None ≡ found_at names name
    → None ≡ numbers_named name names numbers
unfolding at_place
named_not names numbers name r is = go (stands_at names (place_of names name) name) refl
  where
    go : (t : Bool) → stands_at names (place_of names name) name ≡ t → None ≡ numbers_named name names numbers
    go true e =
        let not : None ≡ Some (place_of names name) = is ∙ ap (λ t. if t then Some (place_of names name) else None) e in
        absurd cc
    go false e = sym (named_is names numbers name r ∙ ap (λ t. if t then numbers_at numbers (place_of names name) else None) e)

-- ---- one domain of a sample more

no_more : (drawn names : List (List ℕ)) → with_domains drawn names [] ≡ drawn
no_more drawn [] = refl
no_more drawn (n ∷ names) = refl

none_left : (place : ℕ) → drop {A = Option Numbers} place [] ≡ []
none_left zero = refl
none_left (suc place) = refl

pub domains_from : (drawn names : List (List ℕ)) (numbers : List (Option Numbers)) (place : ℕ) → place < length names
    → with_domains drawn (drop place names) (drop place numbers)
    ≡ with_domains (with_steered (numbers_at numbers place) (get_or names place []) drawn) (drop (place + 1) names) (drop (place + 1) numbers)
domains_from drawn [] numbers place h = absurd (omega arith)
domains_from drawn (n ∷ names) [] zero h = sym (no_more drawn names)
domains_from drawn (n ∷ names) (x ∷ numbers) zero h = refl
domains_from drawn (n ∷ names) [] (suc place) h =
    no_more drawn (drop place names) ∙ sym (no_more drawn (drop (suc place + 1) (n ∷ names)))
    ∙ ap (λ (l : List (Option Numbers)). with_domains drawn (drop (suc place + 1) (n ∷ names)) l) (sym (none_left (suc place + 1)))
domains_from drawn (n ∷ names) (x ∷ numbers) (suc place) h =
    let next : suc place + 1 ≡ suc (place + 1) = omega arith in
    domains_from drawn names numbers place (omega arith)
    ∙ (λ i. with_domains (with_steered (numbers_at numbers place) (get_or names place []) drawn) (drop (sym next i) (n ∷ names)) (drop (sym next i) (x ∷ numbers)))

pub domains_more : (drawn new whole names : List (List ℕ)) (numbers : List (Option Numbers)) (place : ℕ) (name : List ℕ) (x : Option Numbers)
    → place < length names → name ≡ get_or names place [] → x ≡ numbers_at numbers place → new ≡ with_steered x name drawn
    → with_domains drawn (drop place names) (drop place numbers) ≡ whole
    → with_domains new (drop (place + 1) names) (drop (place + 1) numbers) ≡ whole
domains_more drawn new whole names numbers place name x less named is more before =
    ap (λ (d : List (List ℕ)). with_domains d (drop (place + 1) names) (drop (place + 1) numbers)) (more ∙ (λ i. with_steered (is i) (named i) drawn))
    ∙ sym (domains_from drawn names numbers place less)
    ∙ before
