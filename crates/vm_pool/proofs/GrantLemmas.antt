-- Grants to one guest, one after the other, taken together.
use Rattle.std.proofs.Common.{◌≡◌, ℕ, zero, suc, ◌+◌, ◌-◌, ◌<◌, ◌≤◌, Bool, true, false, Option, Some, None, IfSome, if◌then◌else◌, max, length, replicate, fold, slice_set, refl, sym, ap, ◌∙◌, arith, subst}
use Rattle.std.specs.Option.{option_map}
use Rattle.std.proofs.lemmas.Bool.{eqb-true, eq-eqb, false≢true}
use Rattle.std.proofs.lemmas.List.{length-set}
use Rattle.vm_guest.specs.Boundary.{granted, is_full, with_grant, with_spare}
use Rattle.vm_guest.specs.Memory.{with_held}
use Rattle.vm_guest.specs.Record.{GuestRecord}
use Rattle.vm_pool.specs.Changes.{frames_to_grant, granted_at}
use Rattle.vm_pool.specs.CanMove.{CanGrant}
use Rattle.vm_pool.specs.Growth.{frames_to_grow, grown, grown_at}
use Rattle.vm_pool.specs.Pool.{PoolView, guest_at, held_by, HasTarget}
use Rattle.vm_pool.proofs.GuestAtLemmas.{changed-here, changed-same, changed-twice}

pub held-grown : (count : ℕ) (guest : Option GuestRecord) → held_by (option_map (grown count) guest) ≡ held_by guest + frames_to_grow count guest
held-grown count None = omega arith
held-grown count (Some g) = omega arith

-- ---- a guest that has its target

granted-above : (g : GuestRecord) → HasTarget g → HasTarget (granted g)
granted-above g has = go (is_full g) refl
  where
    go : (b : Bool) → is_full g ≡ b → HasTarget (if b then with_spare (with_grant g) else with_grant g)
    go true full = omega arith
    go false spare =
        let apart : g.memory.held ≡ g.allotment.target → ⊥ = λ same. false≢true (sym spare ∙ eq-eqb g.memory.held g.allotment.target same) in
        omega (arith, has, apart)

grown-none : (g : GuestRecord) → HasTarget g → grown 0 g ≡ g
grown-none g has =
    let target : g.allotment.target + 0 ≡ g.allotment.target = omega arith in
    let demand : g.allotment.demand - 0 ≡ g.allotment.demand = omega arith in
    let held : max g.memory.held (g.allotment.target + 0) ≡ g.memory.held = omega (arith, has) in
    λ i. record g { memory = with_held g.memory (held i); allotment = record g.allotment { target = target i; demand = demand i } }

grown-granted : (n : ℕ) (g : GuestRecord) → HasTarget g → grown n (granted g) ≡ grown (suc n) g
grown-granted n g has = go (is_full g) refl
  where
    target : g.allotment.target + 1 + n ≡ g.allotment.target + suc n
    target = omega arith

    demand : g.allotment.demand - 1 - n ≡ g.allotment.demand - suc n
    demand = omega arith

    go : (b : Bool) → is_full g ≡ b → grown n (if b then with_spare (with_grant g) else with_grant g) ≡ grown (suc n) g
    go true full =
        let same : g.memory.held ≡ g.allotment.target = eqb-true g.memory.held g.allotment.target full in
        let held : max (g.memory.held + 1) (g.allotment.target + 1 + n) ≡ max g.memory.held (g.allotment.target + suc n) = omega (arith, same) in
        λ i. record g { memory = with_held g.memory (held i); allotment = record g.allotment { target = target i; demand = demand i } }
    go false spare =
        let held : max g.memory.held (g.allotment.target + 1 + n) ≡ max g.memory.held (g.allotment.target + suc n) = omega arith in
        λ i. record g { memory = with_held g.memory (held i); allotment = record g.allotment { target = target i; demand = demand i } }

free-granted : (n free : ℕ) (g : GuestRecord) → free - frames_to_grant (Some g) - frames_to_grow n (Some (granted g)) ≡ free - frames_to_grow (suc n) (Some g)
free-granted n free g = go (is_full g) refl
  where
    go : (b : Bool) → is_full g ≡ b
        → free - (if b then 1 else 0) - frames_to_grow n (Some (if b then with_spare (with_grant g) else with_grant g)) ≡ free - frames_to_grow (suc n) (Some g)
    go true full =
        let same : g.memory.held ≡ g.allotment.target = eqb-true g.memory.held g.allotment.target full in
        omega (arith, same)
    go false spare = omega arith

-- ---- a guest, if there is one

above-after : (guest : Option GuestRecord) → IfSome guest HasTarget → IfSome (option_map granted guest) HasTarget
above-after None has = tt
above-after (Some g) has = granted-above g has

none-grown : (guest : Option GuestRecord) → IfSome guest HasTarget → option_map (grown 0) guest ≡ guest
none-grown None has = refl
none-grown (Some g) has = ap Some (grown-none g has)

none-spent : (free : ℕ) (guest : Option GuestRecord) → IfSome guest HasTarget → free - frames_to_grow 0 guest ≡ free
none-spent free None has = omega arith
none-spent free (Some g) has = omega (arith, has)

grown-after : (n : ℕ) (guest : Option GuestRecord) → IfSome guest HasTarget → option_map (grown n) (option_map granted guest) ≡ option_map (grown (suc n)) guest
grown-after n None has = refl
grown-after n (Some g) has = ap Some (grown-granted n g has)

free-after : (n free : ℕ) (guest : Option GuestRecord) → free - frames_to_grant guest - frames_to_grow n (option_map granted guest) ≡ free - frames_to_grow (suc n) guest
free-after n free None = omega arith
free-after n free (Some g) = free-granted n free g

-- ---- the guest at a position

above-granted : (p : PoolView) (k : ℕ) → IfSome (guest_at p k) HasTarget → IfSome (guest_at (granted_at p k) k) HasTarget
above-granted p k has = subst (λ guest. IfSome guest HasTarget) (sym (changed-here granted p.guests k)) (above-after (guest_at p k) has)

grown_at-none : (p : PoolView) (k : ℕ) → IfSome (guest_at p k) HasTarget → grown_at 0 p k ≡ p
grown_at-none p k has = λ i. record p {
  guests = changed-same (grown 0) p.guests k (none-grown (guest_at p k) has) i;
  free = none-spent p.free (guest_at p k) has i;
}

grown_at-granted : (n : ℕ) (p : PoolView) (k : ℕ) → IfSome (guest_at p k) HasTarget → grown_at n (granted_at p k) k ≡ grown_at (suc n) p k
grown_at-granted n p k has =
    let guests = changed-twice granted (grown n) p.guests k ∙ ap (slice_set p.guests k) (grown-after n (guest_at p k) has) in
    let free = ap (λ guest. p.free - frames_to_grant (guest_at p k) - frames_to_grow n guest) (changed-here granted p.guests k) ∙ free-after n p.free (guest_at p k) in
    λ i. record p { guests = guests i; free = free i }

-- grants to a guest that has its target, one after the other, are as many at once
pub grants-together : (n : ℕ) (p : PoolView) (k : ℕ) → IfSome (guest_at p k) HasTarget → fold granted_at p (replicate n k) ≡ grown_at n p k
grants-together zero p k has = sym (grown_at-none p k has)
grants-together (suc n) p k has = grants-together n (granted_at p k) k (above-granted p k has) ∙ grown_at-granted n p k has

-- ---- grants that can be done can be done at once

pub record IsGrowable (count free : ℕ) (guest : Option GuestRecord) : Type 0 where
  pub demand : IfSome guest (λ g. count ≤ g.allotment.demand)
  pub room : IfSome guest (λ g. g.allotment.target + count ≤ g.allotment.cap)
  pub enough : frames_to_grow count guest ≤ free

growable-one : (free : ℕ) (guest : Option GuestRecord) → IfSome guest HasTarget → IfSome guest (λ g. 0 < g.allotment.demand)
    → IfSome guest (λ g. g.allotment.target < g.allotment.cap) → frames_to_grant guest ≤ free → IsGrowable 1 free guest
growable-one free None has demand room enough = record { demand = tt; room = tt; enough = omega arith }
growable-one free (Some g) has demand room enough = record { demand = omega (arith, demand); room = omega (arith, room); enough = go (is_full g) refl enough }
  where
    go : (b : Bool) → is_full g ≡ b → (if b then 1 else 0) ≤ free → g.allotment.target + 1 - g.memory.held ≤ free
    go true full one = omega (arith, has, one)
    go false spare none =
        let apart : g.memory.held ≡ g.allotment.target → ⊥ = λ same. false≢true (sym spare ∙ eq-eqb g.memory.held g.allotment.target same) in
        omega (arith, has, apart)

growable-more : (n free : ℕ) (guest : Option GuestRecord) → IfSome guest (λ g. 0 < g.allotment.demand) → frames_to_grant guest ≤ free
    → IsGrowable n (free - frames_to_grant guest) (option_map granted guest) → IsGrowable (suc n) free guest
growable-more n free None demand enough rest = record { demand = tt; room = tt; enough = omega arith }
growable-more n free (Some g) demand enough rest = go (is_full g) refl enough rest.demand rest.room rest.enough
  where
    go : (b : Bool) → is_full g ≡ b → (if b then 1 else 0) ≤ free → n ≤ (if b then with_spare (with_grant g) else with_grant g).allotment.demand
        → (if b then with_spare (with_grant g) else with_grant g).allotment.target + n ≤ (if b then with_spare (with_grant g) else with_grant g).allotment.cap
        → frames_to_grow n (Some (if b then with_spare (with_grant g) else with_grant g)) ≤ free - (if b then 1 else 0) → IsGrowable (suc n) free (Some g)
    go true full one asked room few = record { demand = omega (arith, demand, asked); room = omega (arith, room); enough = omega (arith, one, few) }
    go false spare none asked room few = record { demand = omega (arith, demand, asked); room = omega (arith, room); enough = omega (arith, few) }

growable : (n : ℕ) (p : PoolView) (k : ℕ) → IfSome (guest_at p k) HasTarget → CanGrant p (replicate (suc n) k) → IsGrowable (suc n) p.free (guest_at p k)
growable zero p k has can = let first = can.0 in growable-one p.free (guest_at p k) has first.demand first.room first.enough
growable (suc n) p k has can =
    let first = can.0 in
    growable-more (suc n) p.free (guest_at p k) first.demand first.enough
    (subst (λ guest. IsGrowable (suc n) (p.free - frames_to_grant (guest_at p k)) guest) (changed-here granted p.guests k) (growable n (granted_at p k) k (above-granted p k has) can.1))

pub can-grow : (count : ℕ) (p : PoolView) (k : ℕ) → 0 < count → IfSome (guest_at p k) HasTarget → CanGrant p (replicate count k) → IsGrowable count p.free (guest_at p k)
can-grow zero p k some has can = absurd (omega (arith, some))
can-grow (suc n) p k some has can = growable n p k has can

pub can-within : (count : ℕ) (p : PoolView) (k : ℕ) → 0 < count → CanGrant p (replicate count k) → k < length p.guests
can-within zero p k some can = absurd (omega (arith, some))
can-within (suc n) p k some can = let first = can.0 in first.within

-- ---- grants that can be done

one-at-most : (guest : Option GuestRecord) → frames_to_grant guest ≤ 1
one-at-most None = omega arith
one-at-most (Some g) = go (is_full g)
  where
    go : (b : Bool) → (if b then 1 else 0) ≤ 1
    go true = omega arith
    go false = omega arith

asked-after : (n : ℕ) (guest : Option GuestRecord) → IfSome guest (λ g. suc n ≤ g.allotment.demand) → IfSome (option_map granted guest) (λ g. n ≤ g.allotment.demand)
asked-after n None asked = tt
asked-after n (Some g) asked = go (is_full g)
  where
    go : (b : Bool) → n ≤ (if b then with_spare (with_grant g) else with_grant g).allotment.demand
    go true = omega (arith, asked)
    go false = omega (arith, asked)

room-after : (n : ℕ) (guest : Option GuestRecord) → IfSome guest (λ g. g.allotment.target + suc n ≤ g.allotment.cap)
    → IfSome (option_map granted guest) (λ g. g.allotment.target + n ≤ g.allotment.cap)
room-after n None room = tt
room-after n (Some g) room = go (is_full g)
  where
    go : (b : Bool) → (if b then with_spare (with_grant g) else with_grant g).allotment.target + n ≤ (if b then with_spare (with_grant g) else with_grant g).allotment.cap
    go true = omega (arith, room)
    go false = omega (arith, room)

one-asked : (n : ℕ) (guest : Option GuestRecord) → IfSome guest (λ g. suc n ≤ g.allotment.demand) → IfSome guest (λ g. 0 < g.allotment.demand)
one-asked n None asked = tt
one-asked n (Some g) asked = omega (arith, asked)

one-room : (n : ℕ) (guest : Option GuestRecord) → IfSome guest (λ g. g.allotment.target + suc n ≤ g.allotment.cap) → IfSome guest (λ g. g.allotment.target < g.allotment.cap)
one-room n None room = tt
one-room n (Some g) room = omega (arith, room)

-- where as many frames are free as a guest asked for and may get, it can be granted them
pub can-be-granted : (n : ℕ) (p : PoolView) (k : ℕ) → k < length p.guests → IfSome (guest_at p k) (λ g. n ≤ g.allotment.demand)
    → IfSome (guest_at p k) (λ g. g.allotment.target + n ≤ g.allotment.cap) → n ≤ p.free → CanGrant p (replicate n k)
can-be-granted zero p k within asked room enough = tt
can-be-granted (suc n) p k within asked room enough =
    let here = changed-here granted p.guests k in
    let long = length-set p.guests k (option_map granted (guest_at p k)) in
    let one = one-at-most (guest_at p k) in (
      record { within = within; demand = one-asked n (guest_at p k) asked; room = one-room n (guest_at p k) room; enough = omega (arith, one, enough) },
      can-be-granted n (granted_at p k) k (omega (arith, within, long))
          (subst (λ guest. IfSome guest (λ g. n ≤ g.allotment.demand)) (sym here) (asked-after n (guest_at p k) asked))
          (subst (λ guest. IfSome guest (λ g. g.allotment.target + n ≤ g.allotment.cap)) (sym here) (room-after n (guest_at p k) room))
          (omega (arith, one, enough)),
    )
