-- Names in order.
use Rattle.std.proofs.Common.{◌≡◌, ◌∙◌, ℕ, zero, suc, ◌+◌, ◌-◌, ◌<◌, ◌≤◌, ◌&&◌, nat_le, zero-add, add-one, Bool, true, false, true≢false, Bor, List, [], ◌∷◌, bytes_eq, get_or, length, map, sym, refl, ap, subst, arith}
use Rattle.std.proofs.lemmas.List.{get_or-map}
use Rattle.std.specs.Cmp.Lexicographic.{slice_cmp}
use Rattle.std.specs.declared.cmp.Ordering.{Ordering}
use Rattle.std.specs.declared.cmp.Ordering.TheVariants.{Less, Equal, Greater}
use Rattle.std.specs.Ordering.{is_eq, is_gt, is_lt, nat_cmp, ordering_reverse}
use Rattle.std.proofs.lemmas.Map.Text.{is_eq-slice_cmp}
use Rattle.std.proofs.lemmas.Bool.Decides.{nat_tests}
use Rattle.std.proofs.lemmas.Slice.Eq.{bytes_eq-Decides}
use Rattle.std.proofs.lemmas.Cmp.{nat_list_cmp_total, upto}
use Rattle.vm_steer.specs.Names.{is_before, place_of, stands_at, stands_twice, times, AreRising}

-- ---- the order

gt_back : (o : Ordering) → is_gt (ordering_reverse o) ≡ is_lt o
gt_back Less = refl
gt_back Equal = refl
gt_back Greater = refl

before_gt : (a b : List ℕ) → is_gt (slice_cmp nat_cmp b a) ≡ is_before a b
unfolding is_before
before_gt a b = ap is_gt (nat_list_cmp_total.antisymm b a) ∙ gt_back (slice_cmp nat_cmp a b)

-- what isn't in front of what isn't in front
pub not_before : (a b c : List ℕ) → is_before b a ≡ false → is_before c b ≡ false → is_before c a ≡ false
not_before a b c p q =
    sym (before_gt c a) ∙ upto nat_list_cmp_total a b c (before_gt b a ∙ p) (before_gt c b ∙ q)

-- what isn't behind what is in front
pub before_through : (a b c : List ℕ) → is_before b a ≡ false → is_before b c ≡ true → is_before a c ≡ true
before_through a b c p q = go (is_before a c) refl
  where
    go : (t : Bool) → is_before a c ≡ t → is_before a c ≡ true
    go true e = e
    go false e = absurd (true≢false (sym q ∙ not_before c a b e p))

-- what stands behind what isn't in front
pub before_behind : (a b c : List ℕ) → is_before b a ≡ false → is_before a c ≡ false → is_before b c ≡ false
before_behind a b c p q = not_before c a b q p

-- what is in front of what isn't behind
pub before_upto : (a b c : List ℕ) → is_before a b ≡ true → is_before c b ≡ false → is_before a c ≡ true
before_upto a b c p q = go (is_before a c) refl
  where
    go : (t : Bool) → is_before a c ≡ t → is_before a c ≡ true
    go true e = e
    go false e = absurd (true≢false (sym p ∙ not_before b c a q e))

one_way : (o : Ordering) → is_lt o ≡ true → is_gt o ≡ false
one_way Less e = refl
one_way Equal e = refl
one_way Greater e = sym e

pub asymmetric : (a b : List ℕ) → is_before a b ≡ true → is_before b a ≡ false
unfolding is_before
asymmetric a b e = sym (before_gt b a) ∙ one_way (slice_cmp nat_cmp a b) e

not_both : (o : Ordering) → is_lt o ≡ true → is_eq o ≡ false
not_both Less e = refl
not_both Equal e = sym e
not_both Greater e = refl

-- a name isn't what it stands in front of
pub before_differs : (a b : List ℕ) → is_before a b ≡ true → bytes_eq a b ≡ false
unfolding is_before
before_differs a b e = sym (is_eq-slice_cmp a b) ∙ not_both (slice_cmp nat_cmp a b) e

third : (o : Ordering) → is_lt o ≡ false → is_eq o ≡ false → is_gt o ≡ true
third Less p q = sym p
third Equal p q = sym q
third Greater p q = refl

-- of two names that differ one stands in front
pub behind : (a b : List ℕ) → is_before a b ≡ false → bytes_eq a b ≡ false → is_before b a ≡ true
unfolding is_before
behind a b p q = sym (before_gt b a) ∙ third (slice_cmp nat_cmp a b) p (is_eq-slice_cmp a b ∙ q)

flipped : (o : Ordering) → is_gt o ≡ true → is_eq o ≡ false
flipped Less e = refl
flipped Equal e = sym e
flipped Greater e = refl

pub before_back : (n name : List ℕ) → is_before name n ≡ true → bytes_eq n name ≡ false
before_back n name e = sym (is_eq-slice_cmp n name) ∙ flipped (slice_cmp nat_cmp n name) (before_gt name n ∙ e)

two : (t : ℕ) → nat_le 2 (1 + (1 + t)) ≡ true
two t = grind (arith, nat_tests)

pub bytes_same : (a b : List ℕ) → bytes_eq a b ≡ true → a ≡ b
bytes_same a b e = (bytes_eq-Decides a b).0 e

-- ---- names in order

pub rising_tail : (n : List ℕ) (names : List (List ℕ)) → AreRising (n ∷ names) → AreRising names
rising_tail n names r = record { rise = λ i j h l. r.rise (suc i) (suc j) (omega arith) (omega arith) }

-- behind a name that it stands in front of, a name isn't found
pub none_behind : (n : List ℕ) (names : List (List ℕ)) (name : List ℕ) → AreRising (n ∷ names) → is_before name n ≡ true → times name (n ∷ names) ≡ 0
none_behind n [] name r e = let no : bytes_eq n name ≡ false = before_back n name e in rw no refl
none_behind n (m ∷ names) name r e =
    let no : bytes_eq n name ≡ false = before_back n name e in
    let later = none_behind m names name (rising_tail n (m ∷ names) r) (before_upto name n m e (r.rise 0 1 (omega arith) (omega arith))) in
    rw no (omega (arith, later))

name_before : (n m name : List ℕ) (names : List (List ℕ)) → AreRising (n ∷ m ∷ names) → bytes_eq n name ≡ true → bytes_eq m name ≡ false → is_before name m ≡ true
name_before n m name names r e f =
    let same : n ≡ name = bytes_same n name e in
    behind m name (subst (λ (x : List ℕ). is_before m x ≡ false) same (r.rise 0 1 (omega arith) (omega arith))) f

-- it stands at its place where it stands anywhere, and twice where it also stands right behind
right_behind : (n : List ℕ) (names : List (List ℕ)) (name : List ℕ) → AreRising (n ∷ names) → bytes_eq n name ≡ true → nat_le 2 (1 + times name names) ≡ stands_at names zero name
right_behind n [] name r e = refl
right_behind n (m ∷ names) name r e = go (bytes_eq m name) refl
  where
    go : (t : Bool) → bytes_eq m name ≡ t → nat_le 2 (1 + times name (m ∷ names)) ≡ bytes_eq m name
    go true f = rw f (two (times name names))
    go false f =
        let none : times name (m ∷ names) ≡ 0 = none_behind m names name (rising_tail n (m ∷ names) r) (name_before n m name names r e f) in
        ap (λ t. nat_le 2 (1 + t)) none ∙ sym f

pub twice_is : (names : List (List ℕ)) (name : List ℕ) → AreRising names → stands_twice names name ≡ (stands_at names (place_of names name) name && stands_at names (suc (place_of names name)) name)
twice_is [] name r = refl
twice_is (n ∷ names) name r = go (twice_is names name (rising_tail n names r)) (is_before n name) refl
  where
    first : (t : Bool) → bytes_eq n name ≡ t → is_before n name ≡ false → nat_le 2 (times name (n ∷ names)) ≡ (bytes_eq n name && stands_at names zero name)
    first true e f = rw e (right_behind n names name r e)
    first false e f = ap (nat_le 2) (none_behind n names name r (behind n name f e)) ∙ sym (ap (λ t. t && stands_at names zero name) e)

    go : stands_twice names name ≡ (stands_at names (place_of names name) name && stands_at names (suc (place_of names name)) name) → (t : Bool) → is_before n name ≡ t
        → nat_le 2 (times name (n ∷ names)) ≡ (stands_at (n ∷ names) (place_of (n ∷ names) name) name && stands_at (n ∷ names) (suc (place_of (n ∷ names) name)) name)
    go later true f =
        let no : bytes_eq n name ≡ false = before_differs n name f in
        rw (f, no) (ap (nat_le 2) (zero-add (times name names)) ∙ later)
    go later false f = rw f (first (bytes_eq n name) refl f)

-- ---- the place of a name

pub place_is : (names : List (List ℕ)) (name : List ℕ) (p : ℕ) → p ≤ length names
    → ((k : ℕ) → k < p → is_before (get_or names k []) name ≡ true) → (p < length names → is_before (get_or names p []) name ≡ false)
    → p ≡ place_of names name
place_is [] name p within front back = omega arith
place_is (n ∷ names) name zero within front back =
    let e : is_before n name ≡ false = back (omega arith) in rw e
place_is (n ∷ names) name (suc p) within front back =
    let e : is_before n name ≡ true = front zero (omega arith) in
    let later = place_is names name p (omega arith) (λ k h. front (suc k) (omega arith)) (λ h. back (omega arith)) in
    rw e (ap suc later)

-- a name of those that are lent
pub name_read : (names : List (Bor (List ℕ))) (k : ℕ) (d : Bor (List ℕ)) → k < length names → get_or (map (λ n. n.now) names) k [] ≡ (get_or names k d).now
name_read names k d h = get_or-map (λ n. n.now) names k d [] h

-- ---- what stands at a place

pub stands_within : (names : List (List ℕ)) (k : ℕ) (name : List ℕ) → k < length names → stands_at names k name ≡ bytes_eq (get_or names k []) name
stands_within [] k name h = absurd (omega arith)
stands_within (n ∷ names) zero name h = refl
stands_within (n ∷ names) (suc k) name h = stands_within names k name (omega arith)

pub stands_beyond : (names : List (List ℕ)) (k : ℕ) (name : List ℕ) → length names ≤ k → stands_at names k name ≡ false
stands_beyond [] k name h = refl
stands_beyond (n ∷ names) zero name h = absurd (omega arith)
stands_beyond (n ∷ names) (suc k) name h = stands_beyond names k name (omega arith)

-- both tests together
pub twice_at : (names : List (List ℕ)) (name : List ℕ) (place : ℕ) (first second : Bool) → AreRising names → place ≡ place_of names name
    → stands_at names place name ≡ first → second ≡ stands_at names (place + 1) name → (first && second) ≡ stands_twice names name
twice_at names name place first second r is at next =
    (λ i. sym at i && (next ∙ ap (λ k. stands_at names k name) (add-one place)) i)
    ∙ (ap (λ p. stands_at names p name && stands_at names (suc p) name) is
    ∙ sym (twice_is names name r))

-- the first test alone
pub not_there : (names : List (List ℕ)) (name : List ℕ) (place : ℕ) → AreRising names → place ≡ place_of names name → stands_at names place name ≡ false → false ≡ stands_twice names name
not_there names name place r is at = twice_at names name place false (stands_at names (place + 1) name) r is at refl

-- what stands at a place is within
pub stands_in : (names : List (List ℕ)) (place : ℕ) (name : List ℕ) → stands_at names place name ≡ true → place < length names
stands_in [] place name at = absurd (true≢false (sym at))
stands_in (n ∷ names) zero name at = omega arith
stands_in (n ∷ names) (suc place) name at = let rest = stands_in names place name at in omega (arith, rest)

-- ---- a place that is guessed

not_itself : (name : List ℕ) → is_before name name ≡ false
not_itself name = go (is_before name name) refl
  where
    go : (t : Bool) → is_before name name ≡ t → is_before name name ≡ false
    go true e = asymmetric name name e
    go false e = e

other_way : (a b : List ℕ) → bytes_eq a b ≡ false → bytes_eq b a ≡ false
other_way a b e = go (bytes_eq b a) refl
  where
    go : (t : Bool) → bytes_eq b a ≡ t → bytes_eq b a ≡ false
    go true f =
        let same : b ≡ a = bytes_same b a f in
        absurd (true≢false (sym (subst (λ (x : List ℕ). bytes_eq x a ≡ true) same f) ∙ subst (λ (x : List ℕ). bytes_eq a x ≡ false) same e))
    go false f = f

-- it stands there, and not right before
pub first_is : (names : List (List ℕ)) (name : List ℕ) (place : ℕ) → AreRising names → stands_at names place name ≡ true → (0 < place → stands_at names (place - 1) name ≡ false) → place ≡ place_of names name
first_is names name place r at before =
    let within : place < length names = stands_in names place name at in
    let here : get_or names place [] ≡ name = bytes_same (get_or names place []) name (sym (stands_within names place name within) ∙ at) in
    place_is names name place (omega (arith, within))
    (λ k less.
    let other : bytes_eq (get_or names (place - 1) []) name ≡ false = sym (stands_within names (place - 1) name (omega (arith, within))) ∙ before (omega (arith, less)) in
    let behind_it : is_before name (get_or names (place - 1) []) ≡ false = subst (λ (n : List ℕ). is_before n (get_or names (place - 1) []) ≡ false) here (r.rise (place - 1) place (omega arith) within) in
    before_through (get_or names k []) (get_or names (place - 1) []) name (r.rise k (place - 1) (omega (arith, less)) (omega (arith, within)))
    (behind name (get_or names (place - 1) []) behind_it (other_way (get_or names (place - 1) []) name other)))
    (λ _. subst (λ (n : List ℕ). is_before n name ≡ false) (sym here) (not_itself name))
