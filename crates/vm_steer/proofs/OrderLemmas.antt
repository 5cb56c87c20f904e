-- Domains that are put in order.
use Rattle.std.proofs.Common.{◌≡◌, ◌∙◌, ℕ, zero, suc, ◌<◌, ◌≤◌, Bool, true, false, List, [], ◌∷◌, get_or, length, map, sym, refl, ap, arith, if◌then◌else◌}
use Rattle.std.specs.Prelude.{⊤}
use Rattle.std.specs.List.{insert}
use Rattle.std.proofs.lemmas.Cmp.{nat_list_cmp_total, tied_itself}
use Rattle.std.specs.Ordering.{is_lt}
use Rattle.vm_samples.specs.Samples.{DomainView}
use Rattle.vm_steer.specs.Names.{is_before, place_of, AreRising}
use Rattle.vm_steer.specs.Order.{in_order, names_of, placed}
use Rattle.vm_steer.proofs.NameLemmas.{asymmetric, not_before, rising_tail}

-- ---- a place in a list

pub map-insert : {A B : Type 0} (f : A → B) (xs : List A) (k : ℕ) (x : A) → map f (insert xs k x) ≡ insert (map f xs) k (f x)
map-insert f xs zero x = refl
map-insert f [] (suc k) x = refl
map-insert f (y ∷ xs) (suc k) x = ap (λ l. f y ∷ l) (map-insert f xs k x)

pub placed-insert : (d : DomainView) (es : List DomainView) → placed d es ≡ insert es (place_of (names_of es) d.name) d
placed-insert d [] = refl
placed-insert d (e ∷ es) = go (placed-insert d es) (is_before e.name d.name) refl
  where
    go : placed d es ≡ insert es (place_of (names_of es) d.name) d → (t : Bool) → is_before e.name d.name ≡ t → placed d (e ∷ es) ≡ insert (e ∷ es) (place_of (names_of (e ∷ es)) d.name) d
    go later true f = rw f (ap (λ l. e ∷ l) later)
    go later false f = rw f refl

-- ---- names that rise

-- none of these stands in front of a name
abbrev NotBefore : List ℕ → List (List ℕ) → Type 0
NotBefore name [] = ⊤
NotBefore name (n ∷ names) = (is_before n name ≡ false) × NotBefore name names

abbrev Rise : List (List ℕ) → Type 0
Rise [] = ⊤
Rise (n ∷ names) = NotBefore n names × Rise names

not_itself : (name : List ℕ) → is_before name name ≡ false
unfolding is_before
not_itself name = ap is_lt (tied_itself nat_list_cmp_total name)

not_before_in : (name : List ℕ) (names : List (List ℕ)) → ((j : ℕ) → j < length names → is_before (get_or names j []) name ≡ false) → NotBefore name names
not_before_in name [] h = tt
not_before_in name (n ∷ names) h = (h 0 (omega arith), not_before_in name names (λ j l. h (suc j) (omega arith)))

not_before_at : (name : List ℕ) (names : List (List ℕ)) → NotBefore name names → (j : ℕ) → j < length names → is_before (get_or names j []) name ≡ false
not_before_at name [] h j l = absurd (omega arith)
not_before_at name (n ∷ names) h zero l = h.0
not_before_at name (n ∷ names) h (suc j) l = not_before_at name names h.1 j (omega arith)

rise_in : (names : List (List ℕ)) → AreRising names → Rise names
rise_in [] r = tt
rise_in (n ∷ names) r = (not_before_in n names (λ j l. r.rise 0 (suc j) (omega arith) (omega arith)), rise_in names (rising_tail n names r))

rise_at : (names : List (List ℕ)) → Rise names → (i j : ℕ) → i ≤ j → j < length names → is_before (get_or names j []) (get_or names i []) ≡ false
rise_at [] h i j le l = absurd (omega arith)
rise_at (n ∷ names) h zero zero le l = not_itself n
rise_at (n ∷ names) h zero (suc j) le l = not_before_at n names h.0 j (omega arith)
rise_at (n ∷ names) h (suc i) zero le l = absurd (omega arith)
rise_at (n ∷ names) h (suc i) (suc j) le l = rise_at names h.1 i j (omega arith) (omega arith)

-- a name in front of others, which don't stand in front of it
through : (a b : List ℕ) (names : List (List ℕ)) → is_before b a ≡ false → NotBefore b names → NotBefore a names
through a b [] e h = tt
through a b (n ∷ names) e h = (not_before a b n e h.0, through a b names e h.1)

placed_not_before : (name : List ℕ) (d : DomainView) (es : List DomainView) → is_before d.name name ≡ false → NotBefore name (names_of es) → NotBefore name (names_of (placed d es))
placed_not_before name d [] e h = (e, tt)
placed_not_before name d (x ∷ es) e h = go (placed_not_before name d es e h.1) (is_before x.name d.name)
  where
    go : NotBefore name (names_of (placed d es)) → (t : Bool) → NotBefore name (names_of (if t then x ∷ placed d es else d ∷ x ∷ es))
    go later true = (h.0, later)
    go later false = (e, h)

placed_rise : (d : DomainView) (es : List DomainView) → Rise (names_of es) → Rise (names_of (placed d es))
placed_rise d [] h = (tt, tt)
placed_rise d (e ∷ es) h = go (placed_rise d es h.1) (is_before e.name d.name) refl
  where
    go : Rise (names_of (placed d es)) → (t : Bool) → is_before e.name d.name ≡ t → Rise (names_of (if t then e ∷ placed d es else d ∷ e ∷ es))
    go later true f = (placed_not_before e.name d es (asymmetric e.name d.name f) h.0, later)
    go later false f = ((f, through d.name e.name (names_of es) f h.0), h)

-- ---- one domain more

-- what a place in both lists leaves
pub placed_both : (d : DomainView) (names : List (List ℕ)) (es : List DomainView) (place : ℕ) → names ≡ names_of es → place ≡ place_of names d.name
    → (insert es place d ≡ placed d es) × (insert names place d.name ≡ names_of (insert es place d))
placed_both d names es place same is =
    let at : place ≡ place_of (names_of es) d.name = is ∙ ap (λ ns. place_of ns d.name) same in (
      ap (λ k. insert es k d) at ∙ sym (placed-insert d es),
      ap (λ ns. insert ns place d.name) same ∙ sym (map-insert (λ (e : DomainView). e.name) es place d),
    )

pub placed_rising : (d : DomainView) (es : List DomainView) → AreRising (names_of es) → AreRising (names_of (placed d es))
placed_rising d es r = record { rise = rise_at (names_of (placed d es)) (placed_rise d es (rise_in (names_of es) r)) }

-- none is lost
length-placed : (d : DomainView) (es : List DomainView) → length (placed d es) ≡ suc (length es)
length-placed d [] = refl
length-placed d (e ∷ es) = go (length-placed d es) (is_before e.name d.name)
  where
    go : length (placed d es) ≡ suc (length es) → (t : Bool) → length (if t then e ∷ placed d es else d ∷ e ∷ es) ≡ suc (suc (length es))
    go later true = ap suc later
    go later false = refl

pub length-in_order : (ds : List DomainView) → length (in_order ds) ≡ length ds
length-in_order [] = refl
length-in_order (d ∷ ds) = length-placed d (in_order ds) ∙ ap suc (length-in_order ds)
