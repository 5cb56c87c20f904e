-- Frames that are taken one by one: each move of the list can be done, and none is the guest's whose minimum is raised.
use Rattle.std.proofs.Common.{◌≡◌, ◌∙◌, ◌≢◌, ℕ, zero, suc, ◌+◌, ◌-◌, ◌<◌, ◌≤◌, IfSome, IsSome, List, [], ◌∷◌, Option, Some, None, length, ⊎_elim, ◌⊎◌, inl, inr, sym, refl, ap, subst, arith}
use Rattle.std.specs.Prelude.{⊤, slice_index_or}
use Rattle.std.specs.Option.{option_map}
use Rattle.std.proofs.lemmas.Option.{none-some}
use Rattle.std.proofs.lemmas.List.Elements.{All-cons, All-head, All-tail, All-set}
use Rattle.vm_guest.specs.Boundary.{released, revoked, surplus, with_min}
use Rattle.vm_guest.specs.Good.{IsGood}
use Rattle.vm_guest.specs.Record.{GuestRecord}
use Rattle.vm_guest.proofs.BoundaryLemmas.{released-allotment}
use Rattle.vm_guest.proofs.GoodLemmas.{released-good, revoked-good}
use Rattle.vm_pool.specs.Changes.{taken_at, AreReleasable}
use Rattle.vm_pool.specs.Guests.{Guests, each_released, guest_changed, guest_in, of_running, EachRunning}
use Rattle.vm_pool.specs.Pool.{PoolView, EachGuest}
use Rattle.vm_tax.specs.Ratio.{Tax}
use Rattle.vm_reclaim.specs.declared.room.Raise.{Raise}
use Rattle.vm_reclaim.specs.Fairness.{TakesFromCheapest}
use Rattle.vm_sound.specs.Moves.{CanTake, HasFrameAt}
use Rattle.vm_guest.specs.declared.allotment.Allotment.{Allotment}
use Rattle.vm_plan.specs.Revocation.{IsRevocationList}
use Rattle.vm_reclaim.specs.Making.{CanRaise, IsNeededFor}
use Rattle.vm_reclaim.specs.Room.{raised, surplus_counts, with_surplus_back}
use Rattle.vm_reclaim.specs.Rows.{rows_of}
use Rattle.vm_reclaim.proofs.RowLemmas.{length-raised, length-shares, releasable}
use Rattle.vm_reclaim.proofs.CanLemmas.{changed_here, within_here}
use Rattle.vm_reclaim.proofs.FairLemmas.{fair-command, guests-taken}

-- ---- two positions

pub other_same : (change : GuestRecord → GuestRecord) (guests : Guests) (k i : ℕ) → k ≢ i → guest_in (guest_changed change guests k) i ≡ guest_in guests i
other_same change [] k i apart = refl
other_same change (guest ∷ guests) zero zero apart = absurd (apart refl)
other_same change (guest ∷ guests) zero (suc i) apart = refl
other_same change (guest ∷ guests) (suc k) zero apart = refl
other_same change (guest ∷ guests) (suc k) (suc i) apart = other_same change guests k i (λ e. apart (ap suc e))

commute : (f h : GuestRecord → GuestRecord) (guests : Guests) (k i : ℕ) → k ≢ i
    → guest_changed f (guest_changed h guests i) k ≡ guest_changed h (guest_changed f guests k) i
commute f h [] k i apart = refl
commute f h (guest ∷ guests) zero zero apart = absurd (apart refl)
commute f h (guest ∷ guests) zero (suc i) apart = refl
commute f h (guest ∷ guests) (suc k) zero apart = refl
commute f h (guest ∷ guests) (suc k) (suc i) apart = ap (λ rest. guest ∷ rest) (commute f h guests k i (λ e. apart (ap suc e)))

pub same_or_apart : (k i : ℕ) → (k ≡ i) ⊎ (k ≢ i)
same_or_apart zero zero = inl refl
same_or_apart zero (suc i) = inr (λ e. absurd (omega (arith, e)))
same_or_apart (suc k) zero = inr (λ e. absurd (omega (arith, e)))
same_or_apart (suc k) (suc i) = ⊎_elim (λ e. inl (ap suc e)) (λ apart. inr (λ e. apart (omega (arith, e)))) (same_or_apart k i)

-- ---- one frame is taken

each_in : (guests : Guests) (k : ℕ) (g : GuestRecord) → EachRunning IsGood guests → guest_in guests k ≡ Some g → IsGood g
each_in [] k g good here = absurd (none-some g here)
each_in (guest ∷ guests) zero g good here = subst (λ (o : Option GuestRecord). IfSome o IsGood) here (All-head (λ o. IfSome o IsGood) guest guests good)
each_in (guest ∷ guests) (suc k) g good here = each_in guests k g (All-tail (λ o. IfSome o IsGood) guest guests good) here

taken_good : (g : GuestRecord) → g.allotment.min < g.allotment.target → IsGood g → IsGood (released 1 (revoked g))
taken_good g above good =
    let held = good.has_target in
    released-good 1 (revoked g) (omega (arith, held, above)) (revoked-good g above good)

good_taken : (pool : PoolView) (k : ℕ) (g : GuestRecord) → guest_in pool.guests k ≡ Some g → g.allotment.min < g.allotment.target → EachGuest IsGood pool
    → EachGuest IsGood (taken_at pool k)
good_taken pool k g here above good =
    subst (λ (guests : Guests). EachRunning IsGood guests) (sym (guests-taken pool k))
    (All-set (λ o. IfSome o IsGood) pool.guests k (option_map (λ g. released 1 (revoked g)) (guest_in pool.guests k))
    (subst (λ (o : Option GuestRecord). IfSome (option_map (λ g. released 1 (revoked g)) o) IsGood) (sym here)
    (taken_good g above (each_in pool.guests k g good here))) good)

-- ---- the guest whose minimum is raised

-- it has no more than the raised minimum, so that it isn't above it
abbrev pub IsNotAbove : Option Raise → PoolView → Type 0
IsNotAbove None pool = ⊤
IsNotAbove (Some raise) pool = IfSome (guest_in pool.guests raise.position) (λ g. g.allotment.target ≤ raise.least)

-- a guest that is above its minimum is another one
pub raised_other : (raise : Raise) (pool : PoolView) (k : ℕ) (g : GuestRecord) → IsNotAbove (Some raise) pool → guest_in (raised (Some raise) pool).guests k ≡ Some g
    → g.allotment.min < g.allotment.target → raise.position ≢ k
raised_other raise pool k g low here above e = go (guest_in pool.guests k) refl
  where
    seen : guest_in (guest_changed (λ g. with_min g raise.least) pool.guests k) k ≡ Some g
    seen = ap (λ p. guest_in (guest_changed (λ g. with_min g raise.least) pool.guests p) k) (sym e) ∙ here

    go : (o : Option GuestRecord) → guest_in pool.guests k ≡ o → ⊥
    go None is = none-some g (sym (changed_here (λ g. with_min g raise.least) pool.guests k ∙ ap (option_map (λ g. with_min g raise.least)) is) ∙ seen)
    go (Some h) is =
        let same : with_min h raise.least ≡ g =
        let some : Some (with_min h raise.least) ≡ Some g = sym (changed_here (λ g. with_min g raise.least) pool.guests k ∙ ap (option_map (λ g. with_min g raise.least)) is) ∙ seen in cc in
        let least = subst (λ (o : Option GuestRecord). IfSome o (λ g. g.allotment.target ≤ raise.least)) (ap (guest_in pool.guests) e ∙ is) low in
        let target = ap (λ (x : GuestRecord). x.allotment.target) same in
        let min = ap (λ (x : GuestRecord). x.allotment.min) same in
        omega (arith, least, target, min, above)

pub raised_taken : (raise : Raise) (pool : PoolView) (k : ℕ) → raise.position ≢ k → taken_at (raised (Some raise) pool) k ≡ raised (Some raise) (taken_at pool k)
raised_taken raise pool k apart =
    let f = λ (g : GuestRecord). with_min g raise.least in
    let first = commute f revoked pool.guests raise.position k apart in
    let second = commute f (released 1) (guest_changed revoked pool.guests k) raise.position k apart in
    let guests = ap (λ (guests : Guests). guest_changed (released 1) guests k) (sym first) ∙ sym second in
    λ i. record pool { guests = guests i; free = pool.free + 1 }

pub not_above_taken : (raise : Raise) (pool : PoolView) (k : ℕ) → raise.position ≢ k → IsNotAbove (Some raise) pool → IsNotAbove (Some raise) (taken_at pool k)
not_above_taken raise pool k apart low =
    let away = λ (e : k ≡ raise.position). apart (sym e) in
    subst (λ (o : Option GuestRecord). IfSome o (λ g. g.allotment.target ≤ raise.least))
    (sym (other_same (released 1) (guest_changed revoked pool.guests k) k raise.position away ∙ other_same revoked pool.guests k raise.position away)) low

frame_at : (pool : PoolView) (k : ℕ) (g : GuestRecord) → guest_in pool.guests k ≡ Some g → g.allotment.min < g.allotment.target → EachGuest IsGood pool → HasFrameAt pool k
frame_at pool k g here above good = record {
  guest = g;
  here = here;
  within = within_here pool.guests k g here;
  above = above;
  held = (each_in pool.guests k g good here).has_target;
}

pub can_take : (tax : Tax) (raise : Option Raise) (pool : PoolView) (moves : List ℕ) → EachGuest IsGood pool → IsNotAbove raise pool
    → TakesFromCheapest tax taken_at (raised raise pool) moves → CanTake pool moves
can_take tax raise pool [] good low takes = tt
can_take tax None pool (position ∷ moves) good low takes =
    let first = takes.0 in (
      frame_at pool position first.guest first.here first.above_minimum good,
      can_take tax None (taken_at pool position) moves (good_taken pool position first.guest first.here first.above_minimum good) low takes.1,
    )
can_take tax (Some raise) pool (position ∷ moves) good low takes =
    let first = takes.0 in
    let apart = raised_other raise pool position first.guest low first.here first.above_minimum in
    let here = sym (other_same (λ g. with_min g raise.least) pool.guests raise.position position apart) ∙ first.here in (
      frame_at pool position first.guest here first.above_minimum good,
      can_take tax (Some raise) (taken_at pool position) moves (good_taken pool position first.guest here first.above_minimum good)
          (not_above_taken raise pool position apart low)
          (subst (λ (p : PoolView). TakesFromCheapest tax taken_at p moves) (raised_taken raise pool position apart) takes.1),
    )

-- ---- frames above targets are given up

pub released_in : (counts : List ℕ) (guests : Guests) (k : ℕ) → length counts ≡ length guests
    → guest_in (each_released counts guests) k ≡ option_map (released (slice_index_or counts k 0)) (guest_in guests k)
released_in [] [] k same = refl
released_in [] (guest ∷ guests) k same = absurd (omega (arith, same))
released_in (count ∷ counts) [] k same = absurd (omega (arith, same))
released_in (count ∷ counts) (guest ∷ guests) zero same = refl
released_in (count ∷ counts) (guest ∷ guests) (suc k) same = released_in counts guests k (omega (arith, same))

pub length-released : (counts : List ℕ) (guests : Guests) → length (each_released counts guests) ≡ length guests
length-released [] guests = refl
length-released (count ∷ counts) [] = refl
length-released (count ∷ counts) (guest ∷ guests) = let rest = length-released counts guests in omega (arith, rest)

released_fact : (count : ℕ) (guest : Option GuestRecord) → count ≤ of_running surplus guest → IfSome guest IsGood → IfSome (option_map (released count) guest) IsGood
released_fact count None few good = tt
released_fact count (Some g) few good = released-good count g few good

pub good_released : (counts : List ℕ) (guests : Guests) → AreReleasable counts guests → EachRunning IsGood guests → EachRunning IsGood (each_released counts guests)
good_released [] guests few good = good
good_released (count ∷ counts) [] few good = good
good_released (count ∷ counts) (guest ∷ guests) few good =
    All-cons (λ o. IfSome o IsGood) (option_map (released count) guest) (each_released counts guests)
    (released_fact count guest (few 0 (omega arith)) (All-head (λ o. IfSome o IsGood) guest guests good))
    (good_released counts guests (λ i within. few (suc i) (omega (arith, within))) (All-tail (λ o. IfSome o IsGood) guest guests good))

-- ---- room

some_released : (n : ℕ) (guest : Option GuestRecord) → IsSome guest → IsSome (option_map (released n) guest)
some_released n None runs = runs
some_released n (Some g) runs = refl

cap_released : (least n : ℕ) (guest : Option GuestRecord) → IfSome guest (λ g. least ≤ g.allotment.cap) → IfSome (option_map (released n) guest) (λ g. least ≤ g.allotment.cap)
cap_released least n None to = tt
cap_released least n (Some g) to = subst (λ (a : Allotment). least ≤ a.cap) (sym (released-allotment n g)) to

length-counts : (raise : Option Raise) (needed : ℕ) (pool : PoolView) → length (surplus_counts raise needed pool) ≡ length pool.guests
length-counts raise needed pool = length-shares (needed - pool.free) (raised raise pool).guests ∙ length-raised raise pool

pub length-left : (raise : Option Raise) (needed : ℕ) (pool : PoolView) → length (with_surplus_back raise needed pool).guests ≡ length pool.guests
length-left raise needed pool = length-released (surplus_counts raise needed pool) pool.guests

-- a minimum that could be raised still can, once frames were given up
pub raise_left : (raise : Option Raise) (needed : ℕ) (pool : PoolView) → CanRaise raise pool → CanRaise raise (with_surplus_back raise needed pool)
raise_left None needed pool can = tt
raise_left (Some raise) needed pool can =
    let counts = surplus_counts (Some raise) needed pool in
    let n = slice_index_or counts raise.position 0 in
    let there = released_in counts pool.guests raise.position (length-counts (Some raise) needed pool) in
    let long = length-left (Some raise) needed pool in
    let within = can.within in
    record {
      within = omega (arith, long, within);
      from = can.from;
      runs = subst (λ (o : Option GuestRecord). IsSome o) (sym there) (some_released n (guest_in pool.guests raise.position) can.runs);
      to = subst (λ (o : Option GuestRecord). IfSome o (λ g. raise.least ≤ g.allotment.cap)) (sym there)
          (cap_released raise.least n (guest_in pool.guests raise.position) can.to);
    }

-- a guest that lacks frames for a raised minimum isn't above it
low_guest : (least n : ℕ) (guest : Option GuestRecord) → 1 ≤ of_running (λ g. least - g.memory.held) guest → IfSome guest IsGood
    → IfSome (option_map (released n) guest) (λ g. g.allotment.target ≤ least)
low_guest least n None lacks good = tt
low_guest least n (Some g) lacks good =
    let has = good.has_target in
    let low : g.allotment.target ≤ least = omega (arith, lacks, has) in
    subst (λ (a : Allotment). a.target ≤ least) (sym (released-allotment n g)) low

good_at : (guests : Guests) (k : ℕ) → EachRunning IsGood guests → IfSome (guest_in guests k) IsGood
good_at [] k good = tt
good_at (guest ∷ guests) zero good = All-head (λ o. IfSome o IsGood) guest guests good
good_at (guest ∷ guests) (suc k) good = good_at guests k (All-tail (λ o. IfSome o IsGood) guest guests good)

pub good_left : (raise : Option Raise) (needed : ℕ) (pool : PoolView) → EachGuest IsGood pool → EachGuest IsGood (with_surplus_back raise needed pool)
good_left raise needed pool good = good_released (surplus_counts raise needed pool) pool.guests (releasable raise needed pool) good

pub low_left : (raise : Raise) (needed : ℕ) (pool : PoolView) → EachGuest IsGood pool → IsNeededFor (Some raise) needed pool → 1 ≤ needed
    → IsNotAbove (Some raise) (with_surplus_back (Some raise) needed pool)
low_left raise needed pool good is some =
    let counts = surplus_counts (Some raise) needed pool in
    let there = released_in counts pool.guests raise.position (length-counts (Some raise) needed pool) in
    subst (λ (o : Option GuestRecord). IfSome o (λ g. g.allotment.target ≤ raise.least)) (sym there)
    (low_guest raise.least (slice_index_or counts raise.position 0) (guest_in pool.guests raise.position) (omega (arith, is, some)) (good_at pool.guests raise.position good))

-- each move of a list for so many frames can be done
pub can_make : (tax : Tax) (raise : Option Raise) (needed wanted : ℕ) (pool : PoolView) (moves : List ℕ) → EachGuest IsGood pool → IsNeededFor raise needed pool → wanted ≤ needed
    → IsRevocationList tax wanted (rows_of (raised raise (with_surplus_back raise needed pool)).guests) moves → CanTake (with_surplus_back raise needed pool) moves
can_make tax raise needed wanted pool [] good is few list = tt
can_make tax None needed wanted pool (position ∷ moves) good is few list =
    can_take tax None (with_surplus_back None needed pool) (position ∷ moves) (good_left None needed pool good) tt
    (fair-command tax wanted (with_surplus_back None needed pool) (position ∷ moves) list)
can_make tax (Some raise) needed wanted pool (position ∷ moves) good is few list =
    let left = with_surplus_back (Some raise) needed pool in
    let no_more = list.no_more in
    can_take tax (Some raise) left (position ∷ moves) (good_left (Some raise) needed pool good) (low_left raise needed pool good is (omega (arith, no_more, few)))
    (fair-command tax wanted (raised (Some raise) left) (position ∷ moves) list)
