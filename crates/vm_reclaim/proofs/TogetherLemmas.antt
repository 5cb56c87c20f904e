-- Pages of a target and frames that one guest gives, one after the other, given at once.
use Rattle.std.proofs.Common.{◌≡◌, ◌∙◌, ℕ, zero, suc, ◌+◌, ◌<◌, ◌≤◌, Bool, true, false, IfSome, [], ◌∷◌, Option, Some, None, if◌then◌else◌, length, replicate, fold, refl, sym, ap, subst, arith}
use Rattle.std.specs.Option.{option_map}
use Rattle.std.proofs.lemmas.List.{length-set}
use Rattle.vm_guest.specs.Boundary.{lowered, released, released_one, revoked, without_one}
use Rattle.vm_guest.specs.Memory.{has_spare}
use Rattle.vm_guest.specs.Record.{GuestRecord}
use Rattle.vm_guest.specs.Touch.{evicted}
use Rattle.vm_pool.specs.CanMove.{CanRevoke}
use Rattle.vm_pool.specs.Changes.{changed, released_at, surplus_of, taken_at}
use Rattle.vm_pool.specs.Guests.{Guests, guest_changed}
use Rattle.vm_pool.specs.Pool.{PoolView, guest_at}
use Rattle.vm_pool.proofs.GuestAtLemmas.{changed-here, changed-same}
use Rattle.vm_pool.proofs.RevokeLemmas.{can-be-revoked, lowered-after, revocations-together, HasAbove}
use Rattle.vm_sound.specs.Moves.{CanTake, HasFrameAt}

-- ---- one guest

-- which frame goes does not depend on the target
lowered-released : (n : ℕ) (g : GuestRecord) → lowered n (released_one g) ≡ released_one (lowered n g)
lowered-released n g = go (has_spare g.memory)
  where
    go : (b : Bool) → lowered n (if b then without_one g else without_one (evicted g)) ≡ (if b then without_one (lowered n g) else without_one (evicted (lowered n g)))
    go true = refl
    go false = refl

released-first : (n : ℕ) (g : GuestRecord) → released n (released_one g) ≡ released (suc n) g
released-first zero g = refl
released-first (suc n) g = ap released_one (released-first n g)

given-after : (n : ℕ) (g : GuestRecord) → released n (lowered n (released 1 (revoked g))) ≡ released (suc n) (lowered (suc n) g)
given-after n g =
    ap (released n) (lowered-released n (revoked g) ∙ ap released_one (lowered-after n g))
    ∙ released-first n (lowered (suc n) g)

-- ---- the guest at a position

none-released : (guest : Option GuestRecord) → option_map (released 0) guest ≡ guest
none-released None = refl
none-released (Some g) = refl

given-more : (n : ℕ) (guests : Guests) (k : ℕ)
    → guest_changed (released n) (guest_changed (lowered n) (guest_changed (released 1) (guest_changed revoked guests k) k) k) k
    ≡ guest_changed (released (suc n)) (guest_changed (lowered (suc n)) guests k) k
given-more n [] k = refl
given-more n (None ∷ guests) zero = refl
given-more n (Some g ∷ guests) zero = ap (λ h. Some h ∷ guests) (given-after n g)
given-more n (guest ∷ guests) (suc k) = ap (λ later. guest ∷ later) (given-more n guests k)

-- the target falls by so many, and as many frames go
abbrev given_at : ℕ → PoolView → ℕ → PoolView
given_at count p k = released_at count (changed (lowered count) p k) k

given-none : (p : PoolView) (k : ℕ) → p ≡ released_at 0 p k
given-none p k =
    let same = changed-same (released 0) p.guests k (none-released (guest_at p k)) in
    let free : p.free ≡ p.free + 0 = omega arith in
    λ i. record p { guests = sym same i; free = free i }

given-taken : (n : ℕ) (p : PoolView) (k : ℕ) → given_at n (taken_at p k) k ≡ given_at (suc n) p k
given-taken n p k =
    let guests = given-more n p.guests k in
    let free : p.free + 1 + n ≡ p.free + suc n = omega arith in
    λ i. record p { guests = guests i; free = free i }

all-given : (n : ℕ) (p : PoolView) (k : ℕ) → fold taken_at p (replicate n k) ≡ released_at n (fold (changed revoked) p (replicate n k)) k
all-given zero p k = given-none p k
all-given (suc n) p k =
    all-given n (taken_at p k) k
    ∙ (ap (λ (q : PoolView). released_at n q k) (revocations-together n (taken_at p k) k)
    ∙ (given-taken n p k ∙ ap (λ (q : PoolView). released_at (suc n) q k) (sym (revocations-together (suc n) p k))))

-- frames that one guest gives, one after the other, are as many at once
pub taken-together : (n : ℕ) (p : PoolView) (k : ℕ) → released_at n (fold (changed revoked) p (replicate n k)) k ≡ fold taken_at p (replicate n k)
taken-together n p k = sym (all-given n p k)

-- ---- what can be taken, one after the other, can be taken at once

above-one : (p : PoolView) (k : ℕ) → HasFrameAt p k → IfSome (guest_at p k) (HasAbove 1)
above-one p k frame =
    let above = frame.above in
    subst (λ (o : Option GuestRecord). IfSome o (HasAbove 1)) (sym frame.here) (omega (arith, above))

above-more : (n : ℕ) (guest : Option GuestRecord) → IfSome (option_map (released 1) (option_map revoked guest)) (HasAbove (suc n)) → IfSome guest (HasAbove (suc (suc n)))
above-more n None rest = tt
above-more n (Some g) rest = go (has_spare g.memory) rest
  where
    go : (b : Bool) → HasAbove (suc n) (if b then without_one (revoked g) else without_one (evicted (revoked g))) → HasAbove (suc (suc n)) g
    go true left = omega (arith, left)
    go false left = omega (arith, left)

above-all : (n : ℕ) (p : PoolView) (k : ℕ) → CanTake p (replicate (suc n) k) → IfSome (guest_at p k) (HasAbove (suc n))
above-all zero p k can = above-one p k can.0
above-all (suc n) p k can =
    let here = changed-here (released 1) (guest_changed revoked p.guests k) k ∙ ap (option_map (released 1)) (changed-here revoked p.guests k) in
    above-more n (guest_at p k) (subst (λ (o : Option GuestRecord). IfSome o (HasAbove (suc n))) here (above-all n (taken_at p k) k can.1))

pub can-revoke-taken : (count : ℕ) (p : PoolView) (k : ℕ) → CanTake p (replicate count k) → CanRevoke p (replicate count k)
can-revoke-taken zero p k can = tt
can-revoke-taken (suc n) p k can = let first = can.0 in can-be-revoked (suc n) p k first.within (above-all n p k can)

-- then the guest has as many frames above its target
pub surplus-left : (count : ℕ) (p : PoolView) (k : ℕ) → 0 < count → CanTake p (replicate count k) → count ≤ surplus_of (guest_at (fold (changed revoked) p (replicate count k)) k)
surplus-left zero p k some can = omega arith
surplus-left (suc n) p k some can =
    let first = can.0 in
    let above : HasAbove (suc n) first.guest = subst (λ (o : Option GuestRecord). IfSome o (HasAbove (suc n))) first.here (above-all n p k can) in
    let held = first.held in
    let here = changed-here (lowered (suc n)) p.guests k ∙ ap (option_map (lowered (suc n))) first.here in
    let same = ap (λ (q : PoolView). surplus_of (guest_at q k)) (revocations-together (suc n) p k) ∙ ap surplus_of here in
    omega (arith, same, above, held)

pub left-within : (count : ℕ) (p : PoolView) (k : ℕ) → 0 < count → CanTake p (replicate count k) → k < length (fold (changed revoked) p (replicate count k)).guests
left-within zero p k some can = absurd (omega (arith, some))
left-within (suc n) p k some can =
    let first = can.0 in
    let within = first.within in
    let all = ap (λ (q : PoolView). length q.guests) (revocations-together (suc n) p k) in
    let long = length-set p.guests k (option_map (lowered (suc n)) (guest_at p k)) in
    omega (arith, within, all, long)
