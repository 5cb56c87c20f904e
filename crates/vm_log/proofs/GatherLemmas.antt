-- Names that are gathered in order.
use Rattle.std.proofs.Common.{◌≡◌, ◌∙◌, ℕ, zero, suc, ◌+◌, ◌<◌, ◌≤◌, ◌||◌, Bool, true, false, true≢false, List, [], ◌∷◌, ◌++◌, Option, None, Some, bytes_eq, filter, get_or, length, map, max, append_assoc, option_map, refl, sym, ap, subst, arith, if◌then◌else◌}
use Rattle.std.specs.Prelude.{⊤}
use Rattle.std.proofs.lemmas.Slice.Eq.{bytes_eq-Decides}
use Rattle.std.specs.List.{insert, list_any}
use Rattle.vm_steer.specs.declared.fate.Fate.{Fate}
use Rattle.vm_steer.specs.declared.fate.Fate.TheVariants.{Left, Steered}
use Rattle.vm_steer.specs.declared.fate.SteeredDomain.{SteeredDomain}
use Rattle.vm_steer.specs.Entries.{EntryView}
use Rattle.vm_steer.specs.Names.{is_before, place_of, stands_at, times, AreRising}
use Rattle.vm_steer.proofs.NameLemmas.{asymmetric, before_back, before_differs, before_upto, behind, bytes_same, not_before, rising_tail}
use Rattle.vm_log.specs.HostOf.{is_among}
use Rattle.vm_log.specs.NamesSeen.{is_left, is_steered, names_from, with_name, with_names}
use Rattle.vm_log.specs.Seen.{as_steered, greater, greatest, held_left, left_in, most_left, steered_in}

-- ---- the place of one name more

pub with-there : (name : List ℕ) (names : List (List ℕ)) → stands_at names (place_of names name) name ≡ true → with_name name names ≡ names
with-there name [] at = absurd (true≢false (sym at))
with-there name (n ∷ names) at = go (with-there name names) (is_before n name) refl at
  where
    here : (t : Bool) → bytes_eq n name ≡ t → bytes_eq n name ≡ true → with_name name (n ∷ names) ≡ n ∷ names
    here true e at = rw e refl
    here false e at = absurd (true≢false (sym at ∙ e))

    go : (stands_at names (place_of names name) name ≡ true → with_name name names ≡ names) → (t : Bool) → is_before n name ≡ t
        → stands_at (n ∷ names) (place_of (n ∷ names) name) name ≡ true → with_name name (n ∷ names) ≡ n ∷ names
    go later true f at =
        let no : bytes_eq n name ≡ false = before_differs n name f in
        rw (no, f) (ap (λ l. n ∷ l) (later (rw f at at)))
    go later false f at = here (bytes_eq n name) refl (rw f at at)

pub with-new : (name : List ℕ) (names : List (List ℕ)) → stands_at names (place_of names name) name ≡ false → with_name name names ≡ insert names (place_of names name) name
with-new name [] at = refl
with-new name (n ∷ names) at = go (with-new name names) (is_before n name) refl at
  where
    go : (stands_at names (place_of names name) name ≡ false → with_name name names ≡ insert names (place_of names name) name) → (t : Bool) → is_before n name ≡ t
        → stands_at (n ∷ names) (place_of (n ∷ names) name) name ≡ false → with_name name (n ∷ names) ≡ insert (n ∷ names) (place_of (n ∷ names) name) name
    go later true f at =
        let no : bytes_eq n name ≡ false = before_differs n name f in
        rw (no, f) (ap (λ l. n ∷ l) (later (rw f at at)))
    go later false f at =
        let no : bytes_eq n name ≡ false = rw f at at in
        rw (no, f) refl

-- ---- who is among them

none_among : (name : List ℕ) (names : List (List ℕ)) (n : List ℕ) → AreRising (n ∷ names) → is_before name n ≡ true → is_among (n ∷ names) name ≡ false
none_among name [] n r f = rw (before_back n name f) refl
none_among name (m ∷ names) n r f =
    rw (before_back n name f) (none_among name names m (rising_tail n (m ∷ names) r) (before_upto name n m f (r.rise 0 1 (omega arith) (omega arith))))

none_behind_it : (n name : List ℕ) (names : List (List ℕ)) → AreRising (n ∷ names) → is_before n name ≡ false → bytes_eq n name ≡ false → is_among names name ≡ false
none_behind_it n name [] r f e = refl
none_behind_it n name (m ∷ names) r f e =
    none_among name names m (rising_tail n (m ∷ names) r) (before_upto name n m (behind n name f e) (r.rise 0 1 (omega arith) (omega arith)))

pub among-place : (name : List ℕ) (names : List (List ℕ)) → AreRising names → is_among names name ≡ stands_at names (place_of names name) name
among-place name [] r = refl
among-place name (n ∷ names) r = go (among-place name names (rising_tail n names r)) (is_before n name) refl
  where
    here : is_before n name ≡ false → (t : Bool) → bytes_eq n name ≡ t → is_among (n ∷ names) name ≡ bytes_eq n name
    here f true e = rw e refl
    here f false e = rw e (none_behind_it n name names r f e)

    go : is_among names name ≡ stands_at names (place_of names name) name → (t : Bool) → is_before n name ≡ t
        → is_among (n ∷ names) name ≡ stands_at (n ∷ names) (place_of (n ∷ names) name) name
    go later true f = rw (f, before_differs n name f) later
    go later false f = rw f (here f (bytes_eq n name) refl)

or_same : (a b : Bool) → (a || (a || b)) ≡ (a || b)
or_same true b = refl
or_same false b = refl

or_swap : (a b c : Bool) → (a || (b || c)) ≡ (b || (a || c))
or_swap true true c = refl
or_swap true false c = refl
or_swap false b c = refl

pub among-with : (m name : List ℕ) (names : List (List ℕ)) → is_among (with_name m names) name ≡ (bytes_eq m name || is_among names name)
among-with m name [] = refl
among-with m name (n ∷ names) = go (among-with m name names) (bytes_eq n m) refl (is_before n m) refl
  where
    go : is_among (with_name m names) name ≡ (bytes_eq m name || is_among names name) → (t : Bool) → bytes_eq n m ≡ t → (u : Bool) → is_before n m ≡ u
        → is_among (with_name m (n ∷ names)) name ≡ (bytes_eq m name || is_among (n ∷ names) name)
    go later true e u f =
        let same : n ≡ m = bytes_same n m e in
        rw e (subst (λ (k : List ℕ). is_among (n ∷ names) name ≡ (bytes_eq k name || is_among (n ∷ names) name)) same (sym (or_same (bytes_eq n name) (is_among names name))))
    go later false e true f =
        rw (e, f) (ap (λ b. bytes_eq n name || b) later ∙ or_swap (bytes_eq n name) (bytes_eq m name) (is_among names name))
    go later false e false f = rw (e, f) refl

-- ---- who isn't among them was never seen

or_neither : (a b : Bool) → (a || b) ≡ false → (a ≡ false) × (b ≡ false)
or_neither true b e = absurd (true≢false e)
or_neither false b e = (refl, e)

pub not-among : (m name : List ℕ) (names : List (List ℕ)) → is_among (with_name m names) name ≡ false → (bytes_eq m name ≡ false) × (is_among names name ≡ false)
not-among m name names e = or_neither (bytes_eq m name) (is_among names name) (sym (among-with m name names) ∙ e)

unsteered : (name : List ℕ) (names : List (List ℕ)) (entries : List EntryView) → is_among (with_names is_steered names entries) name ≡ false
    → (is_among names name ≡ false) × (steered_in name entries ≡ None)
unsteered name names [] e = (e, refl)
unsteered name names (x ∷ entries) e = go (λ (ns : List (List ℕ)). unsteered name ns entries) x.name x.fate e
  where
    other : (m : List ℕ) (fate : Fate) (t : Bool) → bytes_eq m name ≡ t → as_steered fate ≡ None → steered_in name entries ≡ None
        → (if bytes_eq m name then as_steered fate else steered_in name entries) ≡ None
    other m fate true f none rest = rw f none
    other m fate false f none rest = rw f rest

    go : ((ns : List (List ℕ)) → is_among (with_names is_steered ns entries) name ≡ false → (is_among ns name ≡ false) × (steered_in name entries ≡ None))
        → (m : List ℕ) (fate : Fate) → is_among (with_names is_steered (if is_steered fate then with_name m names else names) entries) name ≡ false
        → (is_among names name ≡ false) × ((if bytes_eq m name then as_steered fate else steered_in name entries) ≡ None)
    go again m (Left left) e =
        let rest = again names e in
        (rest.0, other m (Left left) (bytes_eq m name) refl refl rest.1)
    go again m (Steered steered) e =
        let rest = again (with_name m names) e in
        let none = not-among m name names rest.0 in
        (none.1, rw none.0 rest.1)

pub never-steered : (number : SteeredDomain → ℕ) (name : List ℕ) (names : List (List ℕ)) (samples : List (List EntryView)) → is_among (names_from is_steered names samples) name ≡ false
    → (is_among names name ≡ false) × (greatest number name samples ≡ None)
never-steered number name names [] e = (e, refl)
never-steered number name names (s ∷ samples) e =
    let rest = never-steered number name (with_names is_steered names s) samples e in
    let here = unsteered name names s rest.0 in
    (here.0, (λ i. greater (option_map number (here.1 i)) (rest.1 i)))

unleft : (name : List ℕ) (names : List (List ℕ)) (entries : List EntryView) → is_among (with_names is_left names entries) name ≡ false
    → (is_among names name ≡ false) × (left_in name entries ≡ 0)
unleft name names [] e = (e, refl)
unleft name names (x ∷ entries) e = go (λ (ns : List (List ℕ)). unleft name ns entries) x.name x.fate e
  where
    other : (m : List ℕ) (t : Bool) → bytes_eq m name ≡ t → left_in name entries ≡ 0 → max (if bytes_eq m name then 0 else 0) (left_in name entries) ≡ 0
    other m true f rest = rw (f, rest) refl
    other m false f rest = rw (f, rest) refl

    go : ((ns : List (List ℕ)) → is_among (with_names is_left ns entries) name ≡ false → (is_among ns name ≡ false) × (left_in name entries ≡ 0))
        → (m : List ℕ) (fate : Fate) → is_among (with_names is_left (if is_left fate then with_name m names else names) entries) name ≡ false
        → (is_among names name ≡ false) × (max (if bytes_eq m name then held_left fate else 0) (left_in name entries) ≡ 0)
    go again m (Left left) e =
        let rest = again (with_name m names) e in
        let none = not-among m name names rest.0 in
        (none.1, rw (none.0, rest.1) refl)
    go again m (Steered steered) e =
        let rest = again names e in
        (rest.0, other m (bytes_eq m name) refl rest.1)

pub never-left : (name : List ℕ) (names : List (List ℕ)) (samples : List (List EntryView)) → is_among (names_from is_left names samples) name ≡ false
    → (is_among names name ≡ false) × (most_left name samples ≡ 0)
never-left name names [] e = (e, refl)
never-left name names (s ∷ samples) e =
    let rest = never-left name (with_names is_left names s) samples e in
    let here = unleft name names s rest.0 in
    (here.0, rw (here.1, rest.1) refl)

-- ---- more samples

pub names-append : (holds : Fate → Bool) (names : List (List ℕ)) (a b : List (List EntryView)) → names_from holds names (a ++ b) ≡ names_from holds (names_from holds names a) b
names-append holds names [] b = refl
names-append holds names (s ∷ a) b = names-append holds (with_names holds names s) a b

-- ---- names that rise

abbrev NotBefore : List ℕ → List (List ℕ) → Type 0
NotBefore name [] = ⊤
NotBefore name (n ∷ names) = (is_before n name ≡ false) × NotBefore name names

abbrev Rise : List (List ℕ) → Type 0
Rise [] = ⊤
Rise (n ∷ names) = NotBefore n names × Rise names

not_before_in : (name : List ℕ) (names : List (List ℕ)) → ((j : ℕ) → j < length names → is_before (get_or names j []) name ≡ false) → NotBefore name names
not_before_in name [] h = tt
not_before_in name (n ∷ names) h = (h 0 (omega arith), not_before_in name names (λ j l. h (suc j) (omega arith)))

not_before_at : (name : List ℕ) (names : List (List ℕ)) → NotBefore name names → (j : ℕ) → j < length names → is_before (get_or names j []) name ≡ false
not_before_at name [] h j l = absurd (omega arith)
not_before_at name (n ∷ names) h zero l = h.0
not_before_at name (n ∷ names) h (suc j) l = not_before_at name names h.1 j (omega arith)

rise_in : (names : List (List ℕ)) → AreRising names → Rise names
rise_in [] r = tt
rise_in (n ∷ names) r = (not_before_in n names (λ j l. r.rise 0 (suc j) (omega arith) (omega arith)), rise_in names (rising_tail n names r))

not_itself : (name : List ℕ) → is_before name name ≡ false
not_itself name = go (is_before name name) refl
  where
    go : (t : Bool) → is_before name name ≡ t → is_before name name ≡ false
    go true e = asymmetric name name e
    go false e = e

rise_at : (names : List (List ℕ)) → Rise names → (i j : ℕ) → i ≤ j → j < length names → is_before (get_or names j []) (get_or names i []) ≡ false
rise_at [] h i j le l = absurd (omega arith)
rise_at (n ∷ names) h zero zero le l = not_itself n
rise_at (n ∷ names) h zero (suc j) le l = not_before_at n names h.0 j (omega arith)
rise_at (n ∷ names) h (suc i) zero le l = absurd (omega arith)
rise_at (n ∷ names) h (suc i) (suc j) le l = rise_at names h.1 i j (omega arith) (omega arith)

-- a name in front of others, which don't stand in front of it
through : (a b : List ℕ) (names : List (List ℕ)) → is_before b a ≡ false → NotBefore b names → NotBefore a names
through a b [] e h = tt
through a b (n ∷ names) e h = (not_before a b n e h.0, through a b names e h.1)

with_not_before : (name m : List ℕ) (names : List (List ℕ)) → is_before m name ≡ false → NotBefore name names → NotBefore name (with_name m names)
with_not_before name m [] e h = (e, tt)
with_not_before name m (n ∷ names) e h = go (with_not_before name m names e h.1) (bytes_eq n m) (is_before n m)
  where
    go : NotBefore name (with_name m names) → (t u : Bool) → NotBefore name (if t then n ∷ names else (if u then n ∷ with_name m names else m ∷ n ∷ names))
    go later true u = h
    go later false true = (h.0, later)
    go later false false = (e, h)

with_rise : (m : List ℕ) (names : List (List ℕ)) → Rise names → Rise (with_name m names)
with_rise m [] h = (tt, tt)
with_rise m (n ∷ names) h = go (with_rise m names h.1) (bytes_eq n m) (is_before n m) refl
  where
    go : Rise (with_name m names) → (t u : Bool) → is_before n m ≡ u → Rise (if t then n ∷ names else (if u then n ∷ with_name m names else m ∷ n ∷ names))
    go later true u f = h
    go later false true f = (with_not_before n m names (asymmetric n m f) h.0, later)
    go later false false f = ((f, through m n names f h.0), h)

pub with-rising : (m : List ℕ) (names : List (List ℕ)) → AreRising names → AreRising (with_name m names)
with-rising m names r = record { rise = rise_at (with_name m names) (with_rise m names (rise_in names r)) }

all_rise : (holds : Fate → Bool) (names : List (List ℕ)) (entries : List EntryView) → AreRising names → AreRising (with_names holds names entries)
all_rise holds names [] r = r
all_rise holds names (e ∷ entries) r = go (λ (ns : List (List ℕ)). all_rise holds ns entries) (holds e.fate)
  where
    go : ((ns : List (List ℕ)) → AreRising ns → AreRising (with_names holds ns entries)) → (t : Bool) → AreRising (with_names holds (if t then with_name e.name names else names) entries)
    go again true = again (with_name e.name names) (with-rising e.name names r)
    go again false = again names r

pub names-rising : (holds : Fate → Bool) (names : List (List ℕ)) (samples : List (List EntryView)) → AreRising names → AreRising (names_from holds names samples)
names-rising holds names [] r = r
names-rising holds names (s ∷ samples) r = names-rising holds (with_names holds names s) samples (all_rise holds names s r)

pub none-rising : AreRising []
none-rising = record { rise = λ i j le l. absurd (omega arith) }

-- ---- only those that were there before

-- those of some names for which a test holds
abbrev pub only : (List ℕ → Bool) → List (List ℕ) → List (List ℕ)
only p [] = []
only p (n ∷ names) = if p n then n ∷ only p names else only p names

only-not : (p : List ℕ → Bool) (m : List ℕ) (names : List (List ℕ)) → p m ≡ false → only p (with_name m names) ≡ only p names
only-not p m [] e = rw e refl
only-not p m (n ∷ names) e = go (only-not p m names e) (bytes_eq n m) refl (is_before n m) refl
  where
    go : only p (with_name m names) ≡ only p names → (t : Bool) → bytes_eq n m ≡ t → (u : Bool) → is_before n m ≡ u → only p (with_name m (n ∷ names)) ≡ only p (n ∷ names)
    go later true f u g = rw f refl
    go later false f true g = rw (f, g) (ap (λ l. if p n then n ∷ l else l) later)
    go later false f false g = rw (f, g, e) refl

-- all that have been there for long stay
abbrev AreIn : (before names : List (List ℕ)) → Type 0
AreIn before names = (name : List ℕ) → is_among before name ≡ true → is_among names name ≡ true

or_right : (a b : Bool) → b ≡ true → (a || b) ≡ true
or_right true b e = refl
or_right false b e = e

in_more : (before names : List (List ℕ)) (m : List ℕ) → AreIn before names → AreIn before (with_name m names)
in_more before names m are name e = among-with m name names ∙ or_right (bytes_eq m name) (is_among names name) (are name e)

only_step : (before names : List (List ℕ)) (m : List ℕ) → AreRising names → AreIn before names → only (is_among before) (with_name m names) ≡ only (is_among before) names
only_step before names m r are = go (is_among before m) refl
  where
    go : (t : Bool) → is_among before m ≡ t → only (is_among before) (with_name m names) ≡ only (is_among before) names
    go true e = ap (only (is_among before)) (with-there m names (sym (among-place m names r) ∙ are m e))
    go false e = only-not (is_among before) m names e

only_entries : (holds : Fate → Bool) (before names : List (List ℕ)) (entries : List EntryView) → AreRising names → AreIn before names
    → (only (is_among before) (with_names holds names entries) ≡ only (is_among before) names) × AreIn before (with_names holds names entries)
only_entries holds before names [] r are = (refl, are)
only_entries holds before names (e ∷ entries) r are = go (λ (ns : List (List ℕ)). only_entries holds before ns entries) (holds e.fate)
  where
    go : ((ns : List (List ℕ)) → AreRising ns → AreIn before ns → (only (is_among before) (with_names holds ns entries) ≡ only (is_among before) ns) × AreIn before (with_names holds ns entries))
        → (t : Bool) → (only (is_among before) (with_names holds (if t then with_name e.name names else names) entries) ≡ only (is_among before) names)
        × AreIn before (with_names holds (if t then with_name e.name names else names) entries)
    go again true =
        let rest = again (with_name e.name names) (with-rising e.name names r) (in_more before names e.name are) in
        (rest.0 ∙ only_step before names e.name r are, rest.1)
    go again false = again names r are

only_samples : (holds : Fate → Bool) (before names : List (List ℕ)) (samples : List (List EntryView)) → AreRising names → AreIn before names
    → only (is_among before) (names_from holds names samples) ≡ only (is_among before) names
only_samples holds before names [] r are = refl
only_samples holds before names (s ∷ samples) r are =
    let here = only_entries holds before names s r are in
    only_samples holds before (with_names holds names s) samples (all_rise holds names s r) here.1 ∙ here.0

bytes_itself : (n : List ℕ) → bytes_eq n n ≡ true
bytes_itself n = (bytes_eq-Decides n n).1 refl

pub among_front : (front : List (List ℕ)) (n : List ℕ) (names : List (List ℕ)) → is_among (front ++ n ∷ names) n ≡ true
among_front [] n names = rw (bytes_itself n) refl
among_front (m ∷ front) n names = or_right (bytes_eq m n) (is_among (front ++ n ∷ names) n) (among_front front n names)

only_all : (front names : List (List ℕ)) → only (is_among (front ++ names)) names ≡ names
only_all front [] = refl
only_all front (n ∷ names) =
    let later : only (is_among (front ++ n ∷ names)) names ≡ names =
    subst (λ (l : List (List ℕ)). only (is_among l) names ≡ names) (append_assoc front (n ∷ []) names) (only_all (front ++ n ∷ []) names) in
    rw (among_front front n names) (ap (λ l. n ∷ l) later)

pub only-before : (holds : Fate → Bool) (before : List (List ℕ)) (samples : List (List EntryView)) → AreRising before → only (is_among before) (names_from holds before samples) ≡ before
only-before holds before samples r = only_samples holds before before samples r (λ name e. e) ∙ only_all [] before

-- each is among them
pub among-each : (names : List (List ℕ)) (i : ℕ) → i < length names → is_among names (get_or names i []) ≡ true
among-each [] i h = absurd (omega arith)
among-each (n ∷ names) zero h = rw (bytes_itself n) refl
among-each (n ∷ names) (suc i) h = or_right (bytes_eq n (get_or names i [])) (is_among names (get_or names i [])) (among-each names i (omega arith))
