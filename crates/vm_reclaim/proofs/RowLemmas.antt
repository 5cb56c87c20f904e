-- Rows of guests that change.
use Rattle.std.proofs.Common.{◌≡◌, ◌∙◌, ℕ, zero, suc, ◌+◌, ◌-◌, ◌<◌, ◌≤◌, ◌==◌, IfSome, IsSome, Bool, true, false, List, [], ◌∷◌, Option, Some, None, length, slice_get, slice_set, get_or, min, sym, refl, ap, subst, arith, if◌then◌else◌}
use Rattle.std.specs.Prelude.{IsSomeAnd}
use Rattle.std.specs.Option.{option_map, option_map_or}
use Rattle.std.proofs.lemmas.Option.{none-some}
use Rattle.std.proofs.lemmas.List.{length-set, map-set}
use Rattle.std.specs.Prelude.{slice_index_or}
use Rattle.vm_guest.specs.Boundary.{surplus}
use Rattle.vm_plan.specs.declared.row.PlanRow.{PlanRow}
use Rattle.vm_plan.specs.PlanRow.{row_of as plan_row, rows_of as plan_rows}
use Rattle.vm_pool.specs.Changes.{AreReleasable}
use Rattle.vm_pool.specs.Guests.{of_running}
use Rattle.vm_reclaim.specs.Making.{shares_of}
use Rattle.vm_reclaim.specs.Room.{surplus_counts, surplus_shares}
use Rattle.vm_guest.specs.Boundary.{granted, is_full, with_grant, with_min, with_spare}
use Rattle.vm_guest.specs.Record.{GuestRecord}
use Rattle.vm_plan.specs.Grants.{Pool, granted as granted_pool, granted_row, pool_after, IsGrantable}
use Rattle.vm_plan.specs.Moves.{EachMove}
use Rattle.vm_plan.specs.Row.{Row, change_at}
use Rattle.vm_pool.specs.Changes.{frames_for_grant, frames_to_grant, granted_at}
use Rattle.vm_pool.specs.CanMove.{CanGrant}
use Rattle.vm_pool.specs.Guests.{Guests, guest_changed, guest_in}
use Rattle.vm_pool.specs.Pool.{PoolView}
use Rattle.vm_reclaim.specs.Making.{raised_row, IsRaisable}
use Rattle.vm_reclaim.specs.Room.{raised}
use Rattle.vm_reclaim.specs.Rows.{plan_pool_of, row_at, row_of, rows_of}
use Rattle.vm_reclaim.specs.declared.room.Raise.{Raise}
use Rattle.vm_reclaim.proofs.CanLemmas.{within_here}

-- where a guest runs, there is its row
pub row_here : (guests : Guests) (k : ℕ) (g : GuestRecord) → guest_in guests k ≡ Some g → slice_get (rows_of guests) k ≡ Some (row_of g)
row_here [] k g here = absurd (none-some g here)
row_here (None ∷ guests) zero g here = absurd (none-some g here)
row_here (Some h ∷ guests) zero g here = ap (option_map row_of) here
row_here (guest ∷ guests) (suc k) g here = row_here guests k g here

-- a change of a row that is that of its guest
pub rows_changed : (change : GuestRecord → GuestRecord) (change_row : Row → Row) (guests : Guests) (k : ℕ) (g : GuestRecord) → guest_in guests k ≡ Some g
    → change_row (row_of g) ≡ row_of (change g) → change_at change_row (rows_of guests) k ≡ rows_of (guest_changed change guests k)
rows_changed change change_row guests k g here same =
    ap (λ (o : Option Row). option_map_or (λ row. slice_set (rows_of guests) k (change_row row)) o (rows_of guests)) (row_here guests k g here)
    ∙ (ap (λ (row : Row). slice_set (rows_of guests) k row) same
    ∙ (ap (λ (o : Option GuestRecord). slice_set (rows_of guests) k (row_at (option_map change o))) (sym here)
    ∙ sym (map-set row_at guests k (option_map change (guest_in guests k)))))

-- ---- grants

pub grant_guest : (guests : Guests) (k : ℕ) → IsSomeAnd (slice_get (rows_of guests) k) (λ row. 0 < row.demand) → (g : GuestRecord) × (guest_in guests k ≡ Some g)
grant_guest [] k some = absurd some
grant_guest (None ∷ guests) zero some = absurd (omega (arith, some))
grant_guest (Some g ∷ guests) zero some = (g, refl)
grant_guest (guest ∷ guests) (suc k) some = grant_guest guests k some

row_granted : (g : GuestRecord) → granted_row (row_of g) ≡ row_of (granted g)
row_granted g = go (is_full g)
  where
    go : (b : Bool) → record (row_of g) { target = g.allotment.target + 1; held = g.memory.held + (if b then 1 else 0); demand = g.allotment.demand - 1 }
        ≡ row_of (if b then with_spare (with_grant g) else with_grant g)
    go true = refl
    go false = ap (λ n. record (row_of g) { target = g.allotment.target + 1; held = n; demand = g.allotment.demand - 1 }) (omega arith)

few_frames : (g : GuestRecord) → frames_for_grant g ≤ 1
few_frames g = go (is_full g)
  where
    go : (b : Bool) → (if b then 1 else 0) ≤ 1
    go true = omega arith
    go false = omega arith

pub pool_granted_at : (pool : PoolView) (k : ℕ) (g : GuestRecord) → guest_in pool.guests k ≡ Some g → granted_pool (plan_pool_of pool) k ≡ plan_pool_of (granted_at pool k)
pool_granted_at pool k g here =
    let row = row_here pool.guests k g here in
    let frames : option_map_or (λ (r : Row). if r.held == r.target then 1 else 0) (slice_get (rows_of pool.guests) k) 0 ≡ frames_to_grant (guest_in pool.guests k) =
    ap (λ (o : Option Row). option_map_or (λ (r : Row). if r.held == r.target then 1 else 0) o 0) row ∙ sym (ap frames_to_grant here) in
    λ i. record { free = pool.free - frames i; rows = rows_changed granted granted_row pool.guests k g here (row_granted g) i }

pub can_grant : (rowpool : Pool) (pool : PoolView) (moves : List ℕ) → rowpool ≡ plan_pool_of pool
    → EachMove (λ before position. IsGrantable (pool_after rowpool before) position) moves → CanGrant pool moves
can_grant rowpool pool [] same each = tt
can_grant rowpool pool (position ∷ moves) same each =
    let may = subst (λ (p : Pool). IsGrantable p position) same (each 0 (omega arith)) in
    let guest = grant_guest pool.guests position may.demand in
    let g = guest.0 in
    let here = guest.1 in
    let row = row_here pool.guests position g here in
    let free = may.frame in
    let few = few_frames g in
    let frames = ap frames_to_grant here in (
      record {
        within = within_here pool.guests position g here;
        demand = subst (λ (o : Option GuestRecord). IfSome o (λ g. 0 < g.allotment.demand)) (sym here) (subst (λ (o : Option Row). IsSomeAnd o (λ row. 0 < row.demand)) row may.demand);
        room = subst (λ (o : Option GuestRecord). IfSome o (λ g. g.allotment.target < g.allotment.cap)) (sym here) (subst (λ (o : Option Row). IsSomeAnd o (λ row. row.target < row.cap)) row may.below_cap);
        enough = omega (arith, free, few, frames);
      },
      can_grant (granted_pool rowpool position) (granted_at pool position) moves (ap (λ (p : Pool). granted_pool p position) same ∙ pool_granted_at pool position g here)
          (λ i within. each (suc i) (omega (arith, within))),
    )

-- ---- a raised minimum

some_here : (o : Option GuestRecord) → IsSome o → (g : GuestRecord) × (o ≡ Some g)
some_here None runs = let no : false ≡ true = runs in absurd (cc)
some_here (Some g) runs = (g, refl)

pub rows_raised : (raise : Raise) (pool : PoolView) → IsRaisable raise pool
    → change_at (raised_row raise.least) (rows_of pool.guests) raise.position ≡ rows_of (raised (Some raise) pool).guests
rows_raised raise pool can =
    let guest = some_here (guest_in pool.guests raise.position) can.runs in
    rows_changed (λ g. with_min g raise.least) (raised_row raise.least) pool.guests raise.position guest.0 guest.1 refl

-- its cap is no lower
pub raised_cap : (raise : Raise) (pool : PoolView) → IsRaisable raise pool → IfSome (slice_get (rows_of pool.guests) raise.position) (λ row. raise.least ≤ row.cap)
raised_cap raise pool can =
    let guest = some_here (guest_in pool.guests raise.position) can.runs in
    subst (λ (o : Option Row). IfSome o (λ row. raise.least ≤ row.cap)) (sym (row_here pool.guests raise.position guest.0 guest.1))
    (subst (λ (o : Option GuestRecord). IfSome o (λ g. raise.least ≤ g.allotment.cap)) guest.1 can.to)

-- ---- rows as the code keeps them

plan_here : (rows : List PlanRow) (k : ℕ) (was : PlanRow) → k < length rows → was ≡ get_or rows k was → slice_get (plan_rows rows) k ≡ Some (plan_row was)
plan_here [] k was there is = absurd (omega (arith, there))
plan_here (row ∷ rows) zero was there is = ap (λ (r : PlanRow). Some (plan_row r)) (sym is)
plan_here (row ∷ rows) (suc k) was there is = plan_here rows k was (omega (arith, there)) is

-- one row is written
pub plan_set : (change : Row → Row) (rows : List PlanRow) (k : ℕ) (was new : PlanRow) → k < length rows → was ≡ get_or rows k was → plan_row new ≡ change (plan_row was)
    → plan_rows (slice_set rows k new) ≡ change_at change (plan_rows rows) k
plan_set change rows k was new there is same =
    map-set plan_row rows k new
    ∙ (ap (λ (row : Row). slice_set (plan_rows rows) k row) same
    ∙ sym (ap (λ (o : Option Row). option_map_or (λ row. slice_set (plan_rows rows) k (change row)) o (plan_rows rows)) (plan_here rows k was there is)))

pub if_plan : (P : Row → Type 0) (rows : List PlanRow) (k : ℕ) → IfSome (slice_get (plan_rows rows) k) P → IfSome (slice_get rows k) (λ r. P (plan_row r))
if_plan P [] k fact = tt
if_plan P (row ∷ rows) zero fact = fact
if_plan P (row ∷ rows) (suc k) fact = if_plan P rows k fact

-- ---- what is held above targets

pub shares_are : (short : ℕ) (guests : Guests) → shares_of short (rows_of guests) ≡ surplus_shares short guests
shares_are short [] = refl
shares_are short (None ∷ guests) = ap (λ l. min short 0 ∷ l) (shares_are (short - 0) guests)
shares_are short (Some g ∷ guests) = ap (λ l. min short (surplus g) ∷ l) (shares_are (short - surplus g) guests)

pub length-shares : (short : ℕ) (guests : Guests) → length (surplus_shares short guests) ≡ length guests
length-shares short [] = refl
length-shares short (guest ∷ guests) = let rest = length-shares (short - of_running surplus guest) guests in omega (arith, rest)

pub shares_within : (short : ℕ) (guests : Guests) (i : ℕ) → slice_index_or (surplus_shares short guests) i 0 ≤ of_running surplus (guest_in guests i)
shares_within short [] i = omega arith
shares_within short (guest ∷ guests) zero = omega arith
shares_within short (guest ∷ guests) (suc i) = shares_within (short - of_running surplus guest) guests i

raised_surplus : (least : ℕ) (guests : Guests) (k i : ℕ)
    → of_running surplus (guest_in (guest_changed (λ g. with_min g least) guests k) i) ≤ of_running surplus (guest_in guests i)
raised_surplus least [] k i = omega arith
raised_surplus least (None ∷ guests) zero zero = omega arith
raised_surplus least (Some g ∷ guests) zero zero = omega arith
raised_surplus least (guest ∷ guests) zero (suc i) = omega arith
raised_surplus least (guest ∷ guests) (suc k) zero = omega arith
raised_surplus least (guest ∷ guests) (suc k) (suc i) = raised_surplus least guests k i

surplus_seen : (raise : Option Raise) (pool : PoolView) (i : ℕ) → of_running surplus (guest_in (raised raise pool).guests i) ≤ of_running surplus (guest_in pool.guests i)
surplus_seen None pool i = omega arith
surplus_seen (Some raise) pool i = raised_surplus raise.least pool.guests raise.position i

pub length-raised : (raise : Option Raise) (pool : PoolView) → length (raised raise pool).guests ≡ length pool.guests
length-raised None pool = refl
length-raised (Some raise) pool = length-set pool.guests raise.position (option_map (λ g. with_min g raise.least) (guest_in pool.guests raise.position))

-- each guest has what it gives up
pub releasable : (raise : Option Raise) (needed : ℕ) (pool : PoolView) → AreReleasable (surplus_counts raise needed pool) pool.guests
releasable raise needed pool i within =
    let share = shares_within (needed - pool.free) (raised raise pool).guests i in
    let seen = surplus_seen raise pool i in
    omega (arith, share, seen)
