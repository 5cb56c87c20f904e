-- Revocations from one guest, one after the other, taken together.
use Rattle.std.proofs.Common.{◌≡◌, ℕ, zero, suc, ◌+◌, ◌-◌, ◌<◌, ◌≤◌, Option, Some, None, IfSome, length, replicate, fold, slice_set, refl, sym, ap, ◌∙◌, arith, subst}
use Rattle.std.specs.Option.{option_map}
use Rattle.std.proofs.lemmas.List.{length-set}
use Rattle.vm_guest.specs.Boundary.{lowered, revoked}
use Rattle.vm_guest.specs.Record.{GuestRecord}
use Rattle.vm_pool.specs.CanMove.{CanRevoke}
use Rattle.vm_pool.specs.Changes.{changed}
use Rattle.vm_pool.specs.Pool.{PoolView, guest_at}
use Rattle.vm_pool.proofs.GuestAtLemmas.{changed-here, changed-same, changed-twice}

-- ---- a guest, if there is one

none-lowered : (guest : Option GuestRecord) → option_map (lowered 0) guest ≡ guest
none-lowered None = refl
none-lowered (Some g) =
    let target : g.allotment.target - 0 ≡ g.allotment.target = omega arith in
    λ i. Some (record g { allotment = record g.allotment { target = target i } })

pub lowered-after : (n : ℕ) (g : GuestRecord) → lowered n (revoked g) ≡ lowered (suc n) g
lowered-after n g =
    let target : g.allotment.target - 1 - n ≡ g.allotment.target - suc n = omega arith in
    λ i. record g { allotment = record g.allotment { target = target i } }

more-lowered : (n : ℕ) (guest : Option GuestRecord) → option_map (lowered n) (option_map revoked guest) ≡ option_map (lowered (suc n)) guest
more-lowered n None = refl
more-lowered n (Some g) = ap Some (lowered-after n g)

-- ---- the guest at a position

lowered-none : (p : PoolView) (k : ℕ) → changed (lowered 0) p k ≡ p
lowered-none p k = λ i. record p { guests = changed-same (lowered 0) p.guests k (none-lowered (guest_at p k)) i }

lowered-more : (n : ℕ) (p : PoolView) (k : ℕ) → changed (lowered n) (changed revoked p k) k ≡ changed (lowered (suc n)) p k
lowered-more n p k =
    let guests = changed-twice revoked (lowered n) p.guests k ∙ ap (slice_set p.guests k) (more-lowered n (guest_at p k)) in
    λ i. record p { guests = guests i }

-- revocations from a guest, one after the other, are as many at once
pub revocations-together : (n : ℕ) (p : PoolView) (k : ℕ) → fold (changed revoked) p (replicate n k) ≡ changed (lowered n) p k
revocations-together zero p k = sym (lowered-none p k)
revocations-together (suc n) p k = revocations-together n (changed revoked p k) k ∙ lowered-more n p k

-- ---- revocations that can be done can be done at once

abbrev pub HasAbove : ℕ → GuestRecord → Type 0
HasAbove count g = g.allotment.min + count ≤ g.allotment.target

above-one : (guest : Option GuestRecord) → IfSome guest (λ g. g.allotment.min < g.allotment.target) → IfSome guest (HasAbove 1)
above-one None above = tt
above-one (Some g) above = omega (arith, above)

above-more : (n : ℕ) (guest : Option GuestRecord) → IfSome (option_map revoked guest) (HasAbove (suc n)) → IfSome guest (HasAbove (suc (suc n)))
above-more n None rest = tt
above-more n (Some g) rest = omega (arith, rest)

lowerable : (n : ℕ) (p : PoolView) (k : ℕ) → CanRevoke p (replicate (suc n) k) → IfSome (guest_at p k) (HasAbove (suc n))
lowerable zero p k can = let first = can.0 in above-one (guest_at p k) first.above
lowerable (suc n) p k can =
    above-more n (guest_at p k)
    (subst (λ guest. IfSome guest (HasAbove (suc n))) (changed-here revoked p.guests k) (lowerable n (changed revoked p k) k can.1))

pub can-lower : (count : ℕ) (p : PoolView) (k : ℕ) → 0 < count → CanRevoke p (replicate count k) → IfSome (guest_at p k) (HasAbove count)
can-lower zero p k some can = absurd (omega (arith, some))
can-lower (suc n) p k some can = lowerable n p k can

pub revokes-within : (count : ℕ) (p : PoolView) (k : ℕ) → 0 < count → CanRevoke p (replicate count k) → k < length p.guests
revokes-within zero p k some can = absurd (omega (arith, some))
revokes-within (suc n) p k some can = let first = can.0 in first.within

-- ---- revocations that can be done

one-above : (n : ℕ) (guest : Option GuestRecord) → IfSome guest (HasAbove (suc n)) → IfSome guest (λ g. g.allotment.min < g.allotment.target)
one-above n None above = tt
one-above n (Some g) above = omega (arith, above)

above-after : (n : ℕ) (guest : Option GuestRecord) → IfSome guest (HasAbove (suc n)) → IfSome (option_map revoked guest) (HasAbove n)
above-after n None above = tt
above-after n (Some g) above = omega (arith, above)

-- where a target is so much above the minimum, it can fall by as much
pub can-be-revoked : (n : ℕ) (p : PoolView) (k : ℕ) → k < length p.guests → IfSome (guest_at p k) (HasAbove n) → CanRevoke p (replicate n k)
can-be-revoked zero p k within above = tt
can-be-revoked (suc n) p k within above =
    let long = length-set p.guests k (option_map revoked (guest_at p k)) in (
      record { within = within; above = one-above n (guest_at p k) above },
      can-be-revoked n (changed revoked p k) k (omega (arith, within, long))
          (subst (λ guest. IfSome guest (HasAbove n)) (sym (changed-here revoked p.guests k)) (above-after n (guest_at p k) above)),
    )
