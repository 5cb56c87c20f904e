-- A domain is found in a sample by its name.
use Rattle.std.proofs.Common.{◌≡◌, ◌∙◌, ℕ, zero, suc, ◌+◌, ◌<◌, ◌≤◌, Bool, true, false, true≢false, List, [], ◌∷◌, bytes_eq, Option, None, Some, drop, get_or, length, map, max, sym, refl, ap, subst, arith, if◌then◌else◌}
use Rattle.std.proofs.lemmas.List.{drop_more, get_or-map, length-map}
use Rattle.vm_steer.specs.declared.fate.SteeredDomain.{SteeredDomain}
use Rattle.vm_steer.specs.declared.fate.Fate.{Fate}
use Rattle.vm_steer.specs.declared.fate.Fate.TheVariants.{Left, Steered}
use Rattle.vm_steer.specs.Entries.{EntryView, names_in}
use Rattle.vm_steer.specs.Names.{is_before, place_of, stands_at, AreRising}
use Rattle.vm_steer.proofs.NameLemmas.{before_back, before_differs, before_upto, behind, not_before, rising_tail, stands_in, stands_within}
use Rattle.vm_log.specs.Seen.{as_steered, held_left, left_in, steered_in}
use Rattle.vm_log.specs.Told.{AreFew, IsFew}

-- behind a name that it stands in front of, a name isn't found
none_steered : (e : EntryView) (es : List EntryView) (name : List ℕ) → AreRising (names_in (e ∷ es)) → is_before name e.name ≡ true → steered_in name es ≡ None
none_steered e [] name r f = refl
none_steered e (x ∷ es) name r f =
    let front : is_before name x.name ≡ true = before_upto name e.name x.name f (r.rise 0 1 (omega arith) (omega arith)) in
    let no : bytes_eq x.name name ≡ false = before_back x.name name front in
    rw no (none_steered x es name (rising_tail e.name (names_in (x ∷ es)) r) front)

there : (es : List EntryView) (name : List ℕ) (d : EntryView) → stands_at (names_in es) (place_of (names_in es) name) name ≡ true → as_steered (get_or es (place_of (names_in es) name) d).fate ≡ steered_in name es
there [] name d at = absurd (true≢false (sym at))
there (e ∷ es) name d at = go (there es name d) (is_before e.name name) refl at
  where
    go : (stands_at (names_in es) (place_of (names_in es) name) name ≡ true → as_steered (get_or es (place_of (names_in es) name) d).fate ≡ steered_in name es)
        → (t : Bool) → is_before e.name name ≡ t → stands_at (names_in (e ∷ es)) (place_of (names_in (e ∷ es)) name) name ≡ true
        → as_steered (get_or (e ∷ es) (place_of (names_in (e ∷ es)) name) d).fate ≡ steered_in name (e ∷ es)
    go later true f at =
        let no : bytes_eq e.name name ≡ false = before_differs e.name name f in
        rw (f, no) (later (rw f at at))
    go later false f at =
        let yes_ : bytes_eq e.name name ≡ true = rw f at at in
        rw (f, yes_) refl

not_there : (es : List EntryView) (name : List ℕ) → AreRising (names_in es) → stands_at (names_in es) (place_of (names_in es) name) name ≡ false → None ≡ steered_in name es
not_there [] name r at = refl
not_there (e ∷ es) name r at = go (not_there es name (rising_tail e.name (names_in es) r)) (is_before e.name name) refl at
  where
    go : (stands_at (names_in es) (place_of (names_in es) name) name ≡ false → None ≡ steered_in name es)
        → (t : Bool) → is_before e.name name ≡ t → stands_at (names_in (e ∷ es)) (place_of (names_in (e ∷ es)) name) name ≡ false → None ≡ steered_in name (e ∷ es)
    go later true f at =
        let no : bytes_eq e.name name ≡ false = before_differs e.name name f in
        rw no (later (rw f at at))
    go later false f at =
        let no : bytes_eq e.name name ≡ false = rw f at at in
        rw no (sym (none_steered e es name r (behind e.name name f no)))

pub steered_there : (es : List EntryView) (name : List ℕ) (place : ℕ) (e : EntryView) → AreRising (names_in es) → place ≡ place_of (names_in es) name → stands_at (names_in es) place name ≡ true → e ≡ get_or es place e
    → as_steered e.fate ≡ steered_in name es
steered_there es name place e r is at read =
    let at_it : stands_at (names_in es) (place_of (names_in es) name) name ≡ true = subst (λ (p : ℕ). stands_at (names_in es) p name ≡ true) is at in
    ap (λ (x : EntryView). as_steered x.fate) (read ∙ ap (λ (p : ℕ). get_or es p e) is) ∙ there es name e at_it

pub steered_none : (es : List EntryView) (name : List ℕ) (place : ℕ) → AreRising (names_in es) → place ≡ place_of (names_in es) name → stands_at (names_in es) place name ≡ false → None ≡ steered_in name es
steered_none es name place r is at = not_there es name r (subst (λ (p : ℕ). stands_at (names_in es) p name ≡ false) is at)

-- what it uses isn't more than it may have
pub few_steered : (es : List EntryView) (name : List ℕ) (d : SteeredDomain) → AreFew es → steered_in name es ≡ Some d → d.used ≤ 262144
few_steered [] name d few e = absurd (cc)
few_steered (x ∷ es) name d few e = go (bytes_eq x.name name) x.fate few.0 (few_steered es name d few.1) e
  where
    go : (t : Bool) (fate : Fate) → IsFew x.name fate → (steered_in name es ≡ Some d → d.used ≤ 262144) → (if t then as_steered fate else steered_in name es) ≡ Some d → d.used ≤ 262144
    go true (Left left) h later e = absurd (cc)
    go true (Steered s) h later e = let same : s ≡ d = (cc) in subst (λ (x : SteeredDomain). x.used ≤ 262144) same h.1
    go false fate h later e = later e

-- ---- who is left alone

none_left : (e : EntryView) (es : List EntryView) (name : List ℕ) → AreRising (names_in (e ∷ es)) → is_before name e.name ≡ true → left_in name es ≡ 0
none_left e [] name r f = refl
none_left e (x ∷ es) name r f =
    let front : is_before name x.name ≡ true = before_upto name e.name x.name f (r.rise 0 1 (omega arith) (omega arith)) in
    let no : bytes_eq x.name name ≡ false = before_back x.name name front in
    let rest = none_left x es name (rising_tail e.name (names_in (x ∷ es)) r) front in
    rw (no, rest) refl

-- what stands in front of its place isn't it
pub left_front : (es : List EntryView) (name : List ℕ) → left_in name (drop (place_of (names_in es) name) es) ≡ left_in name es
left_front [] name = refl
left_front (e ∷ es) name = go (left_front es name) (is_before e.name name) refl
  where
    zero_max : (n : ℕ) → n ≡ max 0 n
    zero_max n = omega arith

    go : left_in name (drop (place_of (names_in es) name) es) ≡ left_in name es → (t : Bool) → is_before e.name name ≡ t → left_in name (drop (place_of (names_in (e ∷ es)) name) (e ∷ es)) ≡ left_in name (e ∷ es)
    go later true f =
        let no : bytes_eq e.name name ≡ false = before_differs e.name name f in
        rw (f, no) (later ∙ zero_max (left_in name es))
    go later false f = rw f refl

place_zero : (e : EntryView) (es : List EntryView) (name : List ℕ) → AreRising (names_in (e ∷ es)) → is_before e.name name ≡ false → place_of (names_in es) name ≡ 0
place_zero e [] name r f = refl
place_zero e (x ∷ es) name r f =
    let g : is_before x.name name ≡ false = not_before name e.name x.name f (r.rise 0 1 (omega arith) (omega arith)) in
    rw g refl

further : (e : EntryView) (es : List EntryView) (name : List ℕ) (place : ℕ) → AreRising (names_in (e ∷ es)) → place_of (names_in (e ∷ es)) name ≤ suc place → (t : Bool) → is_before e.name name ≡ t
    → (place_of (names_in es) name ≤ place → left_in name (drop place es) ≡ 0) → left_in name (drop place es) ≡ 0
further e es name place r le true f again = let h = rw f at le in again (omega (arith, h))
further e es name place r le false f again = let z = place_zero e es name r f in again (omega (arith, z))

-- from where another stands nothing more is told of it
pub left_end : (es : List EntryView) (name : List ℕ) (place : ℕ) → AreRising (names_in es) → place_of (names_in es) name ≤ place → stands_at (names_in es) place name ≡ false → left_in name (drop place es) ≡ 0
left_end [] name zero r le at = refl
left_end [] name (suc place) r le at = refl
left_end (e ∷ es) name zero r le at = go (is_before e.name name) refl
  where
    go : (t : Bool) → is_before e.name name ≡ t → left_in name (e ∷ es) ≡ 0
    go true f = let h = rw f at le in absurd (omega (arith, h))
    go false f =
        let no : bytes_eq e.name name ≡ false = at in
        let rest = none_left e es name r (behind e.name name f no) in
        rw (no, rest) refl
left_end (e ∷ es) name (suc place) r le at = further e es name place r le (is_before e.name name) refl (λ h. left_end es name place (rising_tail e.name (names_in es) r) h at)

-- one of them, at a place that is told not to have the name
pub left_next : (es : List EntryView) (name : List ℕ) (place : ℕ) (e : EntryView) (most held new whole : ℕ) → place < length es → e ≡ get_or es place e → bytes_eq e.name name ≡ true → held ≡ held_left e.fate
    → new ≡ max most held → max most (left_in name (drop place es)) ≡ whole → max new (left_in name (drop (place + 1) es)) ≡ whole
left_next es name place e most held new whole less is same told raised done =
    let split : drop place es ≡ e ∷ drop (place + 1) es = drop_more es place e less ∙ ap (λ (x : EntryView). x ∷ drop (place + 1) es) (sym is) in
    let first : left_in name (drop place es) ≡ max (held_left e.fate) (left_in name (drop (place + 1) es)) = ap (left_in name) split ∙ (rw same refl) in
    omega (arith, first, told, raised, done)

pub left_at : (es : List EntryView) (name : List ℕ) (place : ℕ) (e : EntryView) → stands_at (names_in es) place name ≡ true → e ≡ get_or es place e → (place < length es) × (bytes_eq e.name name ≡ true)
left_at es name place e at is =
    let all : length (names_in es) ≡ length es = length-map es (λ (x : EntryView). x.name) in
    let within : place < length es = omega (arith, all, stands_in (names_in es) place name at) in
    let read : get_or (names_in es) place [] ≡ e.name = get_or-map (λ (x : EntryView). x.name) es place e [] within ∙ ap (λ (x : EntryView). x.name) (sym is) in
    (within, ap (λ (n : List ℕ). bytes_eq n name) (sym read) ∙ (sym (stands_within (names_in es) place name (omega (arith, all, within))) ∙ at))
