-- A list with a change at a place, or of each element.
use Rattle.std.proofs.Common.{◌≡◌, ◌≢◌, ◌<◌, ◌≤◌, ◌+◌, ℕ, zero, suc, List, [], ◌∷◌, map, length, get_or, set, All, Some, refl, ap, sym, ◌∙◌, add-one, arith}
use Rattle.std.proofs.lemmas.List.Elements.{All-cons, All-head, All-tail}
use Rattle.std.specs.Option.{option_map}
use Rattle.std.specs.Prelude.{slice_get}
use Rattle.vm_variants.specs.Variants.{changed_at}

pub length-changed : {A : Type 0} (place : ℕ) (change : A → A) (xs : List A) → length (changed_at place change xs) ≡ length xs
length-changed place change [] = refl
length-changed zero change (x ∷ xs) = refl
length-changed (suc place) change (x ∷ xs) = ap suc (length-changed place change xs)

pub changed-set : {A : Type 0} (place : ℕ) (change : A → A) (xs : List A) (d : A)
    → changed_at place change xs ≡ set xs place (change (get_or xs place d))
changed-set place change [] d = refl
changed-set zero change (x ∷ xs) d = refl
changed-set (suc place) change (x ∷ xs) d = ap (λ rest. x ∷ rest) (changed-set place change xs d)

pub changed-same : {A : Type 0} (place : ℕ) (change : A → A) (xs : List A)
    → ((x : A) → slice_get xs place ≡ Some x → change x ≡ x) → changed_at place change xs ≡ xs
changed-same place change [] same = refl
changed-same zero change (x ∷ xs) same = ap (λ y. y ∷ xs) (same x refl)
changed-same (suc place) change (x ∷ xs) same = ap (λ rest. x ∷ rest) (changed-same place change xs same)

-- two changes of one element
pub changed-twice : {A : Type 0} (place : ℕ) (first second : A → A) (xs : List A)
    → changed_at place second (changed_at place first xs) ≡ changed_at place (λ x. second (first x)) xs
changed-twice place first second [] = refl
changed-twice zero first second (x ∷ xs) = refl
changed-twice (suc place) first second (x ∷ xs) = ap (λ rest. x ∷ rest) (changed-twice place first second xs)

-- a change that another one makes undone
pub changed-over : {A : Type 0} (place : ℕ) (first second : A → A) (xs : List A) → ((x : A) → second (first x) ≡ second x)
    → changed_at place second (changed_at place first xs) ≡ changed_at place second xs
changed-over place first second [] over = refl
changed-over zero first second (x ∷ xs) over = ap (λ y. y ∷ xs) (over x)
changed-over (suc place) first second (x ∷ xs) over = ap (λ rest. x ∷ rest) (changed-over place first second xs over)

pub slice_get-changed : {A : Type 0} (place : ℕ) (change : A → A) (xs : List A)
    → slice_get (changed_at place change xs) place ≡ option_map change (slice_get xs place)
slice_get-changed place change [] = refl
slice_get-changed zero change (x ∷ xs) = refl
slice_get-changed (suc place) change (x ∷ xs) = slice_get-changed place change xs

-- changes at two places, in either order
pub changed-apart : {A : Type 0} (p q : ℕ) (f g : A → A) (xs : List A) → p ≢ q
    → changed_at p f (changed_at q g xs) ≡ changed_at q g (changed_at p f xs)
changed-apart p q f g [] apart = refl
changed-apart zero zero f g (x ∷ xs) apart = absurd (apart refl)
changed-apart zero (suc q) f g (x ∷ xs) apart = refl
changed-apart (suc p) zero f g (x ∷ xs) apart = refl
changed-apart (suc p) (suc q) f g (x ∷ xs) apart = ap (λ rest. x ∷ rest) (changed-apart p q f g xs (λ same. apart (ap suc same)))

-- changes of which neither sees the other
pub changed-commute : {A : Type 0} (p q : ℕ) (f g : A → A) (xs : List A) → ((x : A) → f (g x) ≡ g (f x))
    → changed_at p f (changed_at q g xs) ≡ changed_at q g (changed_at p f xs)
changed-commute p q f g [] commute = refl
changed-commute zero zero f g (x ∷ xs) commute = ap (λ y. y ∷ xs) (commute x)
changed-commute zero (suc q) f g (x ∷ xs) commute = refl
changed-commute (suc p) zero f g (x ∷ xs) commute = refl
changed-commute (suc p) (suc q) f g (x ∷ xs) commute = ap (λ rest. x ∷ rest) (changed-commute p q f g xs commute)

pub map-changed : {A : Type 0} (place : ℕ) (f g : A → A) (xs : List A) → ((x : A) → f (g x) ≡ g (f x))
    → map f (changed_at place g xs) ≡ changed_at place g (map f xs)
map-changed place f g [] commute = refl
map-changed zero f g (x ∷ xs) commute = ap (λ y. y ∷ map f xs) (commute x)
map-changed (suc place) f g (x ∷ xs) commute = ap (λ rest. f x ∷ rest) (map-changed place f g xs commute)

pub map-over-changed : {A : Type 0} (place : ℕ) (f g : A → A) (xs : List A) → ((x : A) → f (g x) ≡ f x)
    → map f (changed_at place g xs) ≡ map f xs
map-over-changed place f g [] over = refl
map-over-changed zero f g (x ∷ xs) over = ap (λ y. y ∷ map f xs) (over x)
map-over-changed (suc place) f g (x ∷ xs) over = ap (λ rest. f x ∷ rest) (map-over-changed place f g xs over)

-- two changes of each element are one
pub map-twice : {A : Type 0} (first second both : A → A) (xs : List A) → ((x : A) → second (first x) ≡ both x)
    → map second (map first xs) ≡ map both xs
map-twice first second both [] same = refl
map-twice first second both (x ∷ xs) same = λ i. same x i ∷ map-twice first second both xs same i

pub map-commute : {A : Type 0} (f g : A → A) (xs : List A) → ((x : A) → f (g x) ≡ g (f x)) → map f (map g xs) ≡ map g (map f xs)
map-commute f g [] commute = refl
map-commute f g (x ∷ xs) commute = λ i. commute x i ∷ map-commute f g xs commute i

pub map-same : {A : Type 0} (P : A → Type 0) (f : A → A) (xs : List A) → ((x : A) → P x → f x ≡ x) → All P xs → map f xs ≡ xs
map-same P f [] same all = refl
map-same P f (x ∷ xs) same all = λ i. same x (All-head P x xs all) i ∷ map-same P f xs same (All-tail P x xs all) i

-- what holds of each element, after a change that keeps it
pub All-changed : {A : Type 0} (P : A → Type 0) (place : ℕ) (change : A → A) (xs : List A)
    → ((x : A) → slice_get xs place ≡ Some x → P x → P (change x)) → All P xs → All P (changed_at place change xs)
All-changed P place change [] keeps all = all
All-changed P zero change (x ∷ xs) keeps all = All-cons P (change x) xs (keeps x refl (All-head P x xs all)) (All-tail P x xs all)
All-changed P (suc place) change (x ∷ xs) keeps all =
    All-cons P x (changed_at place change xs) (All-head P x xs all) (All-changed P place change xs keeps (All-tail P x xs all))

pub All-each : {A : Type 0} (P : A → Type 0) (change : A → A) (xs : List A) → ((x : A) → P x → P (change x)) → All P xs → All P (map change xs)
All-each P change [] keeps all = all
All-each P change (x ∷ xs) keeps all =
    All-cons P (change x) (map change xs) (keeps x (All-head P x xs all)) (All-each P change xs keeps (All-tail P x xs all))

-- ---- a loop over each element

-- the first n elements changed, the others as they were
abbrev pub first_mapped : {A : Type 0} → (A → A) → ℕ → List A → List A
first_mapped f zero xs = xs
first_mapped f (suc n) [] = []
first_mapped f (suc n) (x ∷ xs) = f x ∷ first_mapped f n xs

next-first_mapped : {A : Type 0} (f : A → A) (n : ℕ) (xs : List A) (d : A) → get_or (first_mapped f n xs) n d ≡ get_or xs n d
next-first_mapped f zero xs d = refl
next-first_mapped f (suc n) [] d = refl
next-first_mapped f (suc n) (x ∷ xs) d = next-first_mapped f n xs d

set-first_mapped : {A : Type 0} (f : A → A) (n : ℕ) (xs : List A) (d : A) → n < length xs
    → set (first_mapped f n xs) n (f (get_or xs n d)) ≡ first_mapped f (suc n) xs
set-first_mapped f zero [] d there = absurd (omega (arith, there))
set-first_mapped f zero (x ∷ xs) d there = refl
set-first_mapped f (suc n) [] d there = absurd (omega (arith, there))
set-first_mapped f (suc n) (x ∷ xs) d there = ap (λ rest. f x ∷ rest) (set-first_mapped f n xs d (omega (arith, there)))

all-first_mapped : {A : Type 0} (f : A → A) (xs : List A) → first_mapped f (length xs) xs ≡ map f xs
all-first_mapped f [] = refl
all-first_mapped f (x ∷ xs) = ap (λ rest. f x ∷ rest) (all-first_mapped f xs)

-- its step
pub step-first_mapped : {A : Type 0} (f : A → A) (now old : List A) (n : ℕ) (new d : A) → now ≡ first_mapped f n old → n < length old
    → new ≡ f (get_or now n d) → set now n new ≡ first_mapped f (n + 1) old
step-first_mapped f now old n new d is there changed =
    ap (λ xs. set xs n new) is
    ∙ ap (set (first_mapped f n old) n) (changed ∙ ap (λ xs. f (get_or xs n d)) is ∙ ap f (next-first_mapped f n old d))
    ∙ set-first_mapped f n old d there
    ∙ ap (λ k. first_mapped f k old) (sym (add-one n))

-- its end
pub end-first_mapped : {A : Type 0} (f : A → A) (now old : List A) (n : ℕ) → now ≡ first_mapped f n old → n ≤ length old → length old ≤ n
    → now ≡ map f old
end-first_mapped f now old n is within past =
    let all : n ≡ length old = omega (arith, within, past) in
    is ∙ ap (λ k. first_mapped f k old) all ∙ all-first_mapped f old
