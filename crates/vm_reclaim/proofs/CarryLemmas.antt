-- A plan that is carried out: frames that guests give up one after the other are those of the counts.
use Rattle.std.proofs.Common.{◌≡◌, ◌∙◌, ℕ, zero, suc, ◌+◌, ◌<◌, List, [], ◌∷◌, ◌++◌, Option, Some, None, fold, length, sym, refl, ap, subst, arith}
use Rattle.std.specs.Option.{option_map}
use Rattle.std.proofs.lemmas.List.{length-map}
use Rattle.vm_guest.specs.Boundary.{released, revoked}
use Rattle.vm_guest.specs.Record.{GuestRecord}
use Rattle.vm_pool.specs.Changes.{AreReleasable, changed, granted_at, surplus_of, with_released}
use Rattle.vm_pool.specs.CanMove.{CanGrant, CanRevoke}
use Rattle.vm_pool.specs.Guests.{Guests, each_released, guest_changed, guest_in, sum_of}
use Rattle.vm_pool.specs.Pool.{PoolView}
use Rattle.vm_plan.specs.declared.state.State.{State}
use Rattle.vm_plan.specs.Paging.{page_count_of}
use Rattle.vm_reclaim.specs.Boundary.{CanCarryOut, CanGiveUp, carried_out, given_up, plan_of, pool_balanced, pool_reclaimed, pool_settled, with_paging, with_rises}
use Rattle.vm_reclaim.specs.Policy.{Policy}
use Rattle.vm_reclaim.specs.Rebalance.{rebalances_in}
use Rattle.vm_reclaim.specs.Reclaim.{counts_of, grants_in, paged_from, pool_revoked, revocations_in}
use Rattle.vm_reclaim.specs.Rows.{row_at}
use Rattle.vm_reclaim.proofs.DropLemmas.{append-one}
use Rattle.vm_reclaim.proofs.PlanningLemmas.{few-given}

-- the guest after those before it
in-after : (before : Guests) (guest : Option GuestRecord) (guests : Guests) → guest_in (before ++ guest ∷ guests) (length before) ≡ guest
in-after [] guest guests = refl
in-after (first ∷ before) guest guests = in-after before guest guests

changed-after : (change : GuestRecord → GuestRecord) (before : Guests) (guest : Option GuestRecord) (guests : Guests)
    → guest_changed change (before ++ guest ∷ guests) (length before) ≡ before ++ option_map change guest ∷ guests
changed-after change [] guest guests = refl
changed-after change (first ∷ before) guest guests = ap (λ later. first ∷ later) (changed-after change before guest guests)

length-more : (before : Guests) (guest : Option GuestRecord) → length (before ++ guest ∷ []) ≡ length before + 1
length-more [] guest = refl
length-more (first ∷ before) guest = let rest = length-more before guest in omega (arith, rest)

length-after : (before : Guests) (guest : Option GuestRecord) (guests : Guests) → length before < length (before ++ guest ∷ guests)
length-after [] guest guests = omega arith
length-after (first ∷ before) guest guests = let rest = length-after before guest guests in omega (arith, rest)

released-none : (guest : Option GuestRecord) → option_map (released zero) guest ≡ guest
released-none None = refl
released-none (Some g) = refl

-- the pool with these guests, and so many frames free
abbrev with_guests : PoolView → Guests → ℕ → PoolView
with_guests pool guests free = record pool { guests = guests; free = free }

module _ (pool : PoolView) where
  -- the first of the guests gives up frames
  given-first : (before guests : Guests) (guest : Option GuestRecord) (free count : ℕ) (counts : List ℕ)
      → fold given_up (with_guests pool (before ++ guest ∷ guests) free) (paged_from (length before) (count ∷ counts))
      ≡ fold given_up (with_guests pool (before ++ option_map (released count) guest ∷ guests) (free + count)) (paged_from (length before + 1) counts)
  given-first before guests guest free zero counts =
      let same : free ≡ free + 0 = omega arith in
      λ i. fold given_up (with_guests pool (before ++ sym (released-none guest) i ∷ guests) (same i)) (paged_from (length before + 1) counts)
  given-first before guests guest free (suc count) counts =
      ap (λ (all : Guests). fold given_up (with_guests pool all (free + suc count)) (paged_from (length before + 1) counts)) (changed-after (released (suc count)) before guest guests)

  -- the guests from a position on do
  given-from : (before guests : Guests) (free : ℕ) (counts : List ℕ) → length counts ≡ length guests
      → fold given_up (with_guests pool (before ++ guests) free) (paged_from (length before) counts)
      ≡ with_guests pool (before ++ each_released counts guests) (free + sum_of counts)
  given-from before [] free [] same = let whole : free ≡ free + 0 = omega arith in λ i. with_guests pool (before ++ []) (whole i)
  given-from before [] free (count ∷ counts) same = absurd (omega (arith, same))
  given-from before (guest ∷ guests) free [] same = absurd (omega (arith, same))
  given-from before (guest ∷ guests) free (count ∷ counts) same =
      let gave = option_map (released count) guest in
      let whole : free + count + sum_of counts ≡ free + (count + sum_of counts) = omega arith in
      given-first before guests guest free count counts
      ∙ ((λ i. fold given_up (with_guests pool (sym (append-one before guests gave) i) (free + count)) (paged_from (sym (length-more before gave) i) counts))
      ∙ (given-from (before ++ gave ∷ []) guests (free + count) counts (omega (arith, same))
      ∙ (λ i. with_guests pool (append-one before (each_released counts guests) gave i) (whole i))))

  -- they can
  can-next : (before guests : Guests) (guest : Option GuestRecord) (free : ℕ) (counts : List ℕ)
      → CanGiveUp (with_guests pool ((before ++ guest ∷ []) ++ guests) free) (paged_from (length (before ++ guest ∷ [])) counts)
      → CanGiveUp (with_guests pool (before ++ guest ∷ guests) free) (paged_from (length before + 1) counts)
  can-next before guests guest free counts can =
      subst (λ (all : Guests). CanGiveUp (with_guests pool all free) (paged_from (length before + 1) counts)) (append-one before guests guest)
      (subst (λ (position : ℕ). CanGiveUp (with_guests pool ((before ++ guest ∷ []) ++ guests) free) (paged_from position counts)) (length-more before guest) can)

  can-give-from : (before guests : Guests) (free : ℕ) (counts : List ℕ) → length counts ≡ length guests → AreReleasable counts guests
      → CanGiveUp (with_guests pool (before ++ guests) free) (paged_from (length before) counts)
  can-give-from before guests free [] same few = tt
  can-give-from before [] free (count ∷ counts) same few = absurd (omega (arith, same))
  can-give-from before (guest ∷ guests) free (zero ∷ counts) same few =
      can-next before guests guest free counts
      (can-give-from (before ++ guest ∷ []) guests free counts (omega (arith, same)) (λ i within. few (suc i) (omega (arith, within))))
  can-give-from before (guest ∷ guests) free (suc count ∷ counts) same few =
      let gave = option_map (released (suc count)) guest in
      let here = ap surplus_of (in-after before guest guests) in
      let enough = few 0 (omega arith) in (
        record { within = length-after before guest guests; few = omega (arith, here, enough) },
        subst (λ (all : Guests). CanGiveUp (with_guests pool all (free + suc count)) (paged_from (length before + 1) counts))
            (sym (changed-after (released (suc count)) before guest guests))
            (can-next before guests gave (free + suc count) counts
            (can-give-from (before ++ gave ∷ []) guests (free + suc count) counts (omega (arith, same)) (λ i within. few (suc i) (omega (arith, within))))),
      )

pub given-all : (pool : PoolView) (counts : List ℕ) → length counts ≡ length pool.guests → fold given_up pool (paged_from 0 counts) ≡ with_released counts pool
given-all pool counts same = given-from pool [] pool.guests pool.free counts same

pub can-give-all : (pool : PoolView) (counts : List ℕ) → length counts ≡ length pool.guests → AreReleasable counts pool.guests → CanGiveUp pool (paged_from 0 counts)
can-give-all pool counts same few = can-give-from pool [] pool.guests pool.free counts same few

-- ---- a whole plan

pub length-paging : (state : State) (page_rate : ℕ) (guests : Guests) → length (counts_of state page_rate guests) ≡ length guests
length-paging state page_rate guests = length-map guests (λ guest. page_count_of state (row_at guest) page_rate)

-- each guest has what it gives up
pub counts-releasable : (state : State) (page_rate : ℕ) (guests : Guests) → AreReleasable (counts_of state page_rate guests) guests
counts-releasable state page_rate [] i within = absurd (omega (arith, within))
counts-releasable state page_rate (guest ∷ guests) zero within = few-given state page_rate guest
counts-releasable state page_rate (guest ∷ guests) (suc i) within = counts-releasable state page_rate guests i (omega (arith, within))

-- carried out, it is what the state asks for
given-is : (policy : Policy) (state : State) (pool : PoolView) → with_paging (plan_of policy state pool) pool ≡ pool_reclaimed policy state pool
given-is policy state pool =
    let fallen = pool_revoked policy state pool in
    given-all fallen (counts_of state policy.page_rate fallen.guests) (length-paging state policy.page_rate fallen.guests)

risen-is : (policy : Policy) (state : State) (pool : PoolView) → with_rises (plan_of policy state pool) pool ≡ pool_settled policy state pool
risen-is policy state pool = ap (λ (p : PoolView). fold granted_at p (grants_in policy state (pool_reclaimed policy state pool))) (given-is policy state pool)

pub balanced-is : (policy : Policy) (state : State) (pool : PoolView) → carried_out (plan_of policy state pool) pool ≡ pool_balanced policy state pool
balanced-is policy state pool = ap (λ (p : PoolView). fold (changed revoked) p (rebalances_in policy state (pool_settled policy state pool))) (risen-is policy state pool)

-- each move of it can be done
pub can-settle : (policy : Policy) (state : State) (pool : PoolView) → CanRevoke pool (revocations_in policy state pool)
    → CanGrant (pool_reclaimed policy state pool) (grants_in policy state (pool_reclaimed policy state pool))
    → CanRevoke (pool_settled policy state pool) (rebalances_in policy state (pool_settled policy state pool)) → CanCarryOut pool (plan_of policy state pool)
can-settle policy state pool falls rises moves =
    let fallen = pool_revoked policy state pool in
    let counts = counts_of state policy.page_rate fallen.guests in
    record {
      can_fall = falls;
      can_give_up = can-give-all fallen counts (length-paging state policy.page_rate fallen.guests) (counts-releasable state policy.page_rate fallen.guests);
      can_rise = subst (λ (p : PoolView). CanGrant p (grants_in policy state (pool_reclaimed policy state pool))) (sym (given-is policy state pool)) rises;
      can_rebalance = subst (λ (p : PoolView). CanRevoke p (rebalances_in policy state (pool_settled policy state pool))) (sym (risen-is policy state pool)) moves;
    }
