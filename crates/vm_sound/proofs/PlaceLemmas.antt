-- The guest at a position, once one guest, or each, was changed.
use Rattle.std.proofs.Common.{◌≡◌, ◌≢◌, ◌⊎◌, ℕ, zero, suc, ◌<◌, List, [], ◌∷◌, Option, Some, None, IfSome, length, inl, inr, ⊎_elim, refl, sym, ap, subst, arith}
use Rattle.std.specs.Prelude.{slice_index_or, slice_set}
use Rattle.std.specs.Option.{option_map}
use Rattle.std.proofs.lemmas.List.{length-set}
use Rattle.std.proofs.lemmas.List.Elements.{All-cons, All-head, All-nil, All-tail}
use Rattle.std.proofs.lemmas.Option.{none-some}
use Rattle.vm_guest.specs.Boundary.{released, revoked}
use Rattle.vm_guest.specs.Record.{GuestRecord}
use Rattle.vm_pool.specs.Changes.{taken_at}
use Rattle.vm_pool.specs.Guests.{Guests, each_changed, each_released, guest_changed, guest_in, EachRunning}
use Rattle.vm_pool.specs.Pool.{PoolView}

-- ---- where a guest runs

-- there is a position
pub within-here : (guests : Guests) (k : ℕ) (g : GuestRecord) → guest_in guests k ≡ Some g → k < length guests
within-here [] k g here = absurd (none-some g here)
within-here (guest ∷ guests) zero g here = omega arith
within-here (guest ∷ guests) (suc k) g here = let rest = within-here guests k g here in omega (arith, rest)

-- what is true of the guest there
pub if-here : (Fact : GuestRecord → Type 0) (guest : Option GuestRecord) (g : GuestRecord) → guest ≡ Some g → Fact g → IfSome guest Fact
if-here Fact guest g here fact = subst (λ (o : Option GuestRecord). IfSome o Fact) (sym here) fact

pub here-if : (Fact : GuestRecord → Type 0) (guest : Option GuestRecord) (g : GuestRecord) → guest ≡ Some g → IfSome guest Fact → Fact g
here-if Fact guest g here fact = subst (λ (o : Option GuestRecord). IfSome o Fact) here fact

-- what follows for the guest of an entry
pub if-any : (Fact : GuestRecord → Type 0) (guest : Option GuestRecord) → ((g : GuestRecord) → Fact g) → IfSome guest Fact
if-any Fact None is = tt
if-any Fact (Some g) is = is g

pub if-then : (Fact Other : GuestRecord → Type 0) (guest : Option GuestRecord) → ((g : GuestRecord) → Fact g → Other g) → IfSome guest Fact → IfSome guest Other
if-then Fact Other None gives fact = tt
if-then Fact Other (Some g) gives fact = gives g fact

pub if-both : (First Second Other : GuestRecord → Type 0) (guest : Option GuestRecord) → ((g : GuestRecord) → First g → Second g → Other g) → IfSome guest First → IfSome guest Second
    → IfSome guest Other
if-both First Second Other None gives first second = tt
if-both First Second Other (Some g) gives first second = gives g first second

-- what is true of each guest is true of that one
pub each-in : (Fact : GuestRecord → Type 0) (guests : Guests) (k : ℕ) (g : GuestRecord) → EachRunning Fact guests → guest_in guests k ≡ Some g → Fact g
each-in Fact [] k g each here = absurd (none-some g here)
each-in Fact (guest ∷ guests) zero g each here = here-if Fact guest g here (All-head (λ o. IfSome o Fact) guest guests each)
each-in Fact (guest ∷ guests) (suc k) g each here = each-in Fact guests k g (All-tail (λ o. IfSome o Fact) guest guests each) here

-- what is true of the guest at each position is true of each guest
pub each-of : (Fact : GuestRecord → Type 0) (guests : Guests) → ((k : ℕ) (g : GuestRecord) → guest_in guests k ≡ Some g → Fact g) → EachRunning Fact guests
each-of Fact [] at = All-nil (λ o. IfSome o Fact)
each-of Fact (None ∷ guests) at = All-cons (λ o. IfSome o Fact) None guests tt (each-of Fact guests (λ k. at (suc k)))
each-of Fact (Some g ∷ guests) at = All-cons (λ o. IfSome o Fact) (Some g) guests (at zero g refl) (each-of Fact guests (λ k. at (suc k)))

-- ---- two positions

pub same-or_apart : (k i : ℕ) → (k ≡ i) ⊎ (k ≢ i)
same-or_apart zero zero = inl refl
same-or_apart zero (suc i) = inr (λ e. absurd (omega (arith, e)))
same-or_apart (suc k) zero = inr (λ e. absurd (omega (arith, e)))
same-or_apart (suc k) (suc i) = ⊎_elim (λ e. inl (ap suc e)) (λ apart. inr (λ e. apart (omega (arith, e)))) (same-or_apart k i)

-- ---- one entry is written

pub in-set : (guests : Guests) (k : ℕ) (new : Option GuestRecord) → k < length guests → guest_in (slice_set guests k new) k ≡ new
in-set [] k new there = absurd (omega (arith, there))
in-set (guest ∷ guests) zero None there = refl
in-set (guest ∷ guests) zero (Some g) there = refl
in-set (guest ∷ guests) (suc k) new there = in-set guests k new (omega (arith, there))

pub in-set_other : (guests : Guests) (k i : ℕ) (new : Option GuestRecord) → k ≢ i → guest_in (slice_set guests k new) i ≡ guest_in guests i
in-set_other [] k i new apart = refl
in-set_other (guest ∷ guests) zero zero new apart = absurd (apart refl)
in-set_other (guest ∷ guests) zero (suc i) new apart = refl
in-set_other (guest ∷ guests) (suc k) zero new apart = refl
in-set_other (guest ∷ guests) (suc k) (suc i) new apart = in-set_other guests k i new (λ e. apart (ap suc e))

-- ---- one guest is changed

pub in-changed : (change : GuestRecord → GuestRecord) (guests : Guests) (k : ℕ) → guest_in (guest_changed change guests k) k ≡ option_map change (guest_in guests k)
in-changed change [] k = refl
in-changed change (None ∷ guests) zero = refl
in-changed change (Some g ∷ guests) zero = refl
in-changed change (guest ∷ guests) (suc k) = in-changed change guests k

pub in-changed_other : (change : GuestRecord → GuestRecord) (guests : Guests) (k i : ℕ) → k ≢ i → guest_in (guest_changed change guests k) i ≡ guest_in guests i
in-changed_other change guests k i apart = in-set_other guests k i (option_map change (guest_in guests k)) apart

pub length-changed : (change : GuestRecord → GuestRecord) (guests : Guests) (k : ℕ) → length (guest_changed change guests k) ≡ length guests
length-changed change guests k = length-set guests k (option_map change (guest_in guests k))

-- two changes of it are one
pub twice-changed : (f h : GuestRecord → GuestRecord) (guests : Guests) (k : ℕ) → guest_changed f (guest_changed h guests k) k ≡ guest_changed (λ g. f (h g)) guests k
twice-changed f h [] k = refl
twice-changed f h (None ∷ guests) zero = refl
twice-changed f h (Some g ∷ guests) zero = refl
twice-changed f h (guest ∷ guests) (suc k) = ap (λ rest. guest ∷ rest) (twice-changed f h guests k)

-- a frame is taken by one change
pub guests-taken : (pool : PoolView) (k : ℕ) → (taken_at pool k).guests ≡ guest_changed (λ g. released 1 (revoked g)) pool.guests k
guests-taken pool k = twice-changed (released 1) revoked pool.guests k

-- ---- each guest is changed

pub in-all_changed : (change : GuestRecord → GuestRecord) (guests : Guests) (k : ℕ) → guest_in (each_changed change guests) k ≡ option_map change (guest_in guests k)
in-all_changed change [] k = refl
in-all_changed change (None ∷ guests) zero = refl
in-all_changed change (Some g ∷ guests) zero = refl
in-all_changed change (guest ∷ guests) (suc k) = in-all_changed change guests k

pub in-released : (counts : List ℕ) (guests : Guests) (k : ℕ) → guest_in (each_released counts guests) k ≡ option_map (released (slice_index_or counts k 0)) (guest_in guests k)
in-released [] [] k = refl
in-released [] (None ∷ guests) zero = refl
in-released [] (Some g ∷ guests) zero = refl
in-released [] (guest ∷ guests) (suc k) = in-released [] guests k
in-released (count ∷ counts) [] k = refl
in-released (count ∷ counts) (None ∷ guests) zero = refl
in-released (count ∷ counts) (Some g ∷ guests) zero = refl
in-released (count ∷ counts) (guest ∷ guests) (suc k) = in-released counts guests k

pub length-released : (counts : List ℕ) (guests : Guests) → length (each_released counts guests) ≡ length guests
length-released [] guests = refl
length-released (count ∷ counts) [] = refl
length-released (count ∷ counts) (guest ∷ guests) = let rest = length-released counts guests in omega (arith, rest)
