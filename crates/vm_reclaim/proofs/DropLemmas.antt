-- The guests from a position on.
use Rattle.std.proofs.Common.{◌≡◌, ◌∙◌, ℕ, zero, suc, ◌+◌, ◌<◌, IfSome, Bool, true, false, List, [], ◌∷◌, ◌++◌, Option, drop, map, if◌then◌else◌, length, refl, sym, ap, arith, add-one}
use Rattle.std.proofs.lemmas.List.Elements.{All-cons, All-nil}
use Rattle.vm_guest.specs.Record.{GuestRecord}
use Rattle.vm_pool.specs.Guests.{Guests, guest_in, EachRunning}
use Rattle.vm_reclaim.specs.Reclaim.{if_blocked}

drop-suc : (guests : Guests) (i : ℕ) → i < length guests → drop i guests ≡ guest_in guests i ∷ drop (suc i) guests
drop-suc [] i there = absurd (omega (arith, there))
drop-suc (guest ∷ guests) zero there = refl
drop-suc (guest ∷ guests) (suc i) there = drop-suc guests i (omega (arith, there))

-- the first of them is the guest there
pub drop_guest : (guests : Guests) (i : ℕ) → i < length guests → drop i guests ≡ guest_in guests i ∷ drop (i + 1) guests
drop_guest guests i there = drop-suc guests i there ∙ ap (λ k. guest_in guests i ∷ drop k guests) (sym (add-one i))

pub append-one : {A : Type 0} (xs ys : List A) (x : A) → (xs ++ x ∷ []) ++ ys ≡ xs ++ x ∷ ys
append-one [] ys x = refl
append-one (z ∷ xs) ys x = ap (λ l. z ∷ l) (append-one xs ys x)

pub append-nil : {A : Type 0} (xs : List A) → xs ++ [] ≡ xs
append-nil [] = refl
append-nil (z ∷ xs) = ap (λ l. z ∷ l) (append-nil xs)

pub map_push : {A B : Type 0} (f : A → B) (xs : List A) (x : A) → map f (xs ++ x ∷ []) ≡ map f xs ++ f x ∷ []
map_push f [] x = refl
map_push f (y ∷ xs) x = ap (λ l. f y ∷ l) (map_push f xs x)

-- one more guest is listed
pub step_list : {B : Type 0} (f : Option GuestRecord → B) (out : List B) (guests : Guests) (i : ℕ) (x : B) (whole : List B) → i < length guests → x ≡ f (guest_in guests i)
    → out ++ map f (drop i guests) ≡ whole → (out ++ x ∷ []) ++ map f (drop (i + 1) guests) ≡ whole
step_list f out guests i x whole there is done =
    append-one out (map f (drop (i + 1) guests)) x
    ∙ (ap (λ y. out ++ y ∷ map f (drop (i + 1) guests)) is
    ∙ (ap (λ gs. out ++ map f gs) (sym (drop_guest guests i there)) ∙ done))

pub told-first : (b : Bool) (out later : List ℕ) (position : ℕ) → (out ++ if_blocked b position) ++ later ≡ out ++ (if b then position ∷ later else later)
told-first true out later position = append-one out later position
told-first false out later position = ap (λ l. l ++ later) (append-nil out)

-- what is true at each position
pub each_of : (Fact : GuestRecord → Type 0) (guests : Guests) → ((i : ℕ) → i < length guests → IfSome (guest_in guests i) Fact) → EachRunning Fact guests
each_of Fact [] all = All-nil (λ o. IfSome o Fact)
each_of Fact (guest ∷ guests) all =
    All-cons (λ o. IfSome o Fact) guest guests (all 0 (omega arith)) (each_of Fact guests (λ i within. all (suc i) (omega (arith, within))))
