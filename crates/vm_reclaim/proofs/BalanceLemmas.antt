-- Targets that fall for guests that would pay more, planned by rows: the rows follow the guests.
use Rattle.std.proofs.Common.{◌≡◌, ◌∙◌, ◌≢◌, ℕ, zero, suc, ◌+◌, ◌-◌, ◌<◌, ◌≤◌, Bool, true, false, IfSome, List, [], ◌∷◌, Option, Some, None, fold, length, min, slice_get, slice_set, ⊎_elim, sym, refl, ap, subst, arith}
use Rattle.std.specs.Prelude.{⊤, IsSomeAnd}
use Rattle.std.specs.Option.{option_map, option_map_or}
use Rattle.std.proofs.lemmas.Bool.{cases_eq, cases_lt}
use Rattle.std.proofs.lemmas.List.{length-map, length-set}
use Rattle.std.proofs.lemmas.List.Elements.{All-nil, All-cons, All-head, All-tail}
use Rattle.vm_guest.specs.Boundary.{revoked}
use Rattle.vm_guest.specs.Record.{GuestRecord}
use Rattle.vm_plan.specs.declared.state.State.{State}
use Rattle.vm_plan.specs.declared.state.State.TheVariants.{High, Soft, Hard, Low}
use Rattle.vm_plan.specs.Grants.{Pool, granted as granted_pool, granted_row, pool_after, IsGrantable}
use Rattle.vm_plan.specs.Moves.{EachMove}
use Rattle.vm_plan.specs.Rebalancing.{rebalancing_list}
use Rattle.vm_plan.specs.Revocation.{revoked_row, rows_after, IsRevocable}
use Rattle.vm_plan.specs.Row.{Row, HaveShares, change_at}
use Rattle.vm_plan.proofs.ChangeLemmas.{row_changed, row_unchanged}
use Rattle.vm_plan.proofs.KeepLemmas.{Each}
use Rattle.vm_plan.proofs.ListLemmas.{change-have_shares}
use Rattle.vm_plan.proofs.Places.{length-change}
use Rattle.vm_pool.specs.CanMove.{CanRevoke}
use Rattle.vm_pool.specs.Changes.{changed, granted_at}
use Rattle.vm_pool.specs.Guests.{Guests, guest_changed, guest_in, total}
use Rattle.vm_pool.specs.Pool.{PoolView}
use Rattle.vm_reclaim.specs.Boundary.{pool_reclaimed, pool_settled}
use Rattle.vm_reclaim.specs.Fairness.{GivesFromCheapest}
use Rattle.vm_reclaim.specs.Planning.{drivers_of, floored_rows, rebalances_of, returning_in, returning_row, rows_granted, unmet_in, CanRise, MovesPages}
use Rattle.vm_reclaim.specs.Policy.{Policy}
use Rattle.vm_reclaim.specs.Rebalance.{giving_at, giving_row, giving_rows, has_own_driver, rebalances_in, returning_by, returning_of, unmet_of}
use Rattle.vm_reclaim.specs.Reclaim.{grants_in}
use Rattle.vm_reclaim.specs.Rows.{plan_pool_of, row_of, rows_of}
use Rattle.vm_reclaim.proofs.CanLemmas.{changed_here}
use Rattle.vm_reclaim.proofs.DriverLemmas.{drivers-settled}
use Rattle.vm_reclaim.proofs.GivingLemmas.{fair-rebalancing}
use Rattle.vm_reclaim.proofs.RowLemmas.{grant_guest, pool_granted_at}
use Rattle.vm_reclaim.proofs.TakeLemmas.{other_same}

-- ---- the rows after grants

both_in : (o : Option Row) → IsSomeAnd o (λ row. 0 < row.demand) → IsSomeAnd o (λ row. row.target < row.cap) → IsSomeAnd o (λ row. (0 < row.demand) × (row.target < row.cap))
both_in None demand room = absurd demand
both_in (Some row) demand room = (demand, room)

-- each grant of a list can be done to the rows
pub can-rise : (pool : Pool) (moves : List ℕ) → EachMove (λ before position. IsGrantable (pool_after pool before) position) moves → CanRise pool.rows moves
can-rise pool [] each = tt
can-rise pool (position ∷ moves) each =
    let first = each 0 (omega arith) in
    (both_in (slice_get pool.rows position) first.demand first.below_cap, can-rise (granted_pool pool position) moves (λ i within. each (suc i) (omega (arith, within))))

-- the rows after grants are those of the guests after them
pub rows-risen : (rowpool : Pool) (pool : PoolView) (moves : List ℕ) → rowpool ≡ plan_pool_of pool
    → EachMove (λ before position. IsGrantable (pool_after rowpool before) position) moves → rows_granted rowpool.rows moves ≡ rows_of (fold granted_at pool moves).guests
rows-risen rowpool pool [] same each = ap (λ (p : Pool). p.rows) same
rows-risen rowpool pool (position ∷ moves) same each =
    let may = subst (λ (p : Pool). IsGrantable p position) same (each 0 (omega arith)) in
    let guest = grant_guest pool.guests position may.demand in
    rows-risen (granted_pool rowpool position) (granted_at pool position) moves (ap (λ (p : Pool). granted_pool p position) same ∙ pool_granted_at pool position guest.0 guest.1)
    (λ i within. each (suc i) (omega (arith, within)))

-- ---- what is wanted, what is on its way, and the floors

pub unmet-are : (guests : Guests) → unmet_in (rows_of guests) ≡ total unmet_of guests
unmet-are [] = refl
unmet-are (None ∷ guests) = ap (λ later. 0 + later) (unmet-are guests)
unmet-are (Some g ∷ guests) = ap (λ later. unmet_of g + later) (unmet-are guests)

returning-is : (g : GuestRecord) (own : Bool) → returning_row own (row_of g) ≡ returning_by own g
returning-is g true = refl
returning-is g false = refl

returning-are : (guests : Guests) → returning_in (drivers_of guests) (rows_of guests) ≡ total returning_of guests
returning-are [] = refl
returning-are (None ∷ guests) = ap (λ later. 0 + later) (returning-are guests)
returning-are (Some g ∷ guests) = λ i. returning-is g (has_own_driver g) i + returning-are guests i

floored-are : (guests : Guests) → floored_rows (drivers_of guests) (rows_of guests) ≡ giving_rows guests
floored-are [] = refl
floored-are (None ∷ guests) = ap (λ later. giving_at None ∷ later) (floored-are guests)
floored-are (Some g ∷ guests) = ap (λ later. giving_row (has_own_driver g) (row_of g) ∷ later) (floored-are guests)

-- what is planned by rows is what is planned for the guests
pub rebalances-are : (policy : Policy) (state : State) (pool : PoolView) → rebalances_of policy state (drivers_of pool.guests) (rows_of pool.guests) ≡ rebalances_in policy state pool
rebalances-are policy High pool =
    λ i. rebalancing_list policy.tax (min policy.rebalance (unmet-are pool.guests i) - returning-are pool.guests i) (floored-are pool.guests i)
rebalances-are policy Soft pool = refl
rebalances-are policy Hard pool = refl
rebalances-are policy Low pool = refl

-- ---- the list by rows

no-most : (rebalance wanted coming : ℕ) → rebalance ≤ 0 → min rebalance wanted - coming ≡ 0
no-most rebalance wanted coming none = omega (arith, none)

-- where pages may not move, none does
pub stays : (policy : Policy) (state : State) (drivers : List Bool) (rows : List Row) → ¬ MovesPages policy.rebalance state → [] ≡ rebalances_of policy state drivers rows
unfolding rebalancing_list
stays policy High drivers rows none =
    ⊎_elim
    (λ (some : 0 < policy.rebalance). absurd (none (refl, some)))
    (λ (never : policy.rebalance ≤ 0).
    sym (ap (λ n. rebalancing_list policy.tax n (floored_rows drivers rows)) (no-most policy.rebalance (unmet_in rows) (returning_in drivers rows) never)))
    (cases_lt 0 policy.rebalance)
stays policy Soft drivers rows none = refl
stays policy Hard drivers rows none = refl
stays policy Low drivers rows none = refl

-- where they may, it is this list
pub list-is : (policy : Policy) (state : State) (drivers : List Bool) (rows floored : List Row) (limit wanted unmet : ℕ) → state ≡ High → limit ≡ wanted - returning_in drivers rows → wanted ≡ min policy.rebalance unmet
    → unmet ≡ unmet_in rows → floored ≡ floored_rows drivers rows → rebalancing_list policy.tax limit floored ≡ rebalances_of policy state drivers rows
list-is policy state drivers rows floored limit wanted unmet high left most all are =
    (λ i. rebalancing_list policy.tax ((left ∙ ap (λ n. n - returning_in drivers rows) (most ∙ ap (min policy.rebalance) all)) i) (are i))
    ∙ ap (λ (s : State). rebalances_of policy s drivers rows) (sym high)

-- ---- shares

granted-shares : (rows : List Row) (moves : List ℕ) → HaveShares rows → HaveShares (rows_granted rows moves)
granted-shares rows [] has = has
granted-shares rows (position ∷ moves) has = granted-shares (change_at granted_row rows position) moves (change-have_shares granted_row (λ row. refl) rows position has)

floored-shares : (drivers : List Bool) (rows : List Row) → HaveShares rows → HaveShares (floored_rows drivers rows)
floored-shares [] rows has = All-nil (λ row. 1 ≤ row.shares)
floored-shares (own ∷ drivers) [] has = All-nil (λ row. 1 ≤ row.shares)
floored-shares (own ∷ drivers) (row ∷ rows) has =
    All-cons (λ row. 1 ≤ row.shares) (giving_row own row) (floored_rows drivers rows)
    (All-head (λ (row : Row). 1 ≤ row.shares) row rows has)
    (floored-shares drivers rows (All-tail (λ (row : Row). 1 ≤ row.shares) row rows has))

pub giving-shares : (drivers : List Bool) (rows : List Row) (moves : List ℕ) → HaveShares rows → HaveShares (floored_rows drivers (rows_granted rows moves))
giving-shares drivers rows moves has = floored-shares drivers (rows_granted rows moves) (granted-shares rows moves has)

-- ---- each target can fall

-- a row above its minimum is that of a guest above its own
abbrev CoversAt : Option Row → Option GuestRecord → Type 0
CoversAt None guest = ⊤
CoversAt (Some row) None = ⊤
CoversAt (Some row) (Some g) = (row.target ≡ g.allotment.target) × (row.min < row.target → g.allotment.min ≤ row.min)

abbrev Covers : List Row → Guests → Type 0
Covers rows guests = (k : ℕ) → CoversAt (slice_get rows k) (guest_in guests k)

covers-row : (g : GuestRecord) (own : Bool) → (giving_row own (row_of g)).min < g.allotment.target → g.allotment.min ≤ (giving_row own (row_of g)).min
covers-row g true above = omega (arith, above)
covers-row g false above = absurd (omega (arith, above))

covers-giving : (guests : Guests) → Covers (giving_rows guests) guests
covers-giving [] k = tt
covers-giving (None ∷ guests) zero = tt
covers-giving (Some g ∷ guests) zero = (refl, covers-row g (has_own_driver g))
covers-giving (guest ∷ guests) (suc k) = covers-giving guests k

covers-fallen : (row : Option Row) (guest : Option GuestRecord) → CoversAt row guest → CoversAt (option_map revoked_row row) (option_map revoked guest)
covers-fallen None guest covers = tt
covers-fallen (Some row) None covers = tt
covers-fallen (Some row) (Some g) covers = (ap (λ n. n - 1) covers.0, λ above. covers.1 (omega (arith, above)))

row-none : (rows : List Row) (k : ℕ) → slice_get rows k ≡ None → slice_get (change_at revoked_row rows k) k ≡ None
row-none rows k is = ap (λ (o : Option Row). slice_get (option_map_or (λ row. slice_set rows k (revoked_row row)) o rows) k) is ∙ is

row-fallen : (rows : List Row) (k : ℕ) → slice_get (change_at revoked_row rows k) k ≡ option_map revoked_row (slice_get rows k)
row-fallen rows k = go (slice_get rows k) refl
  where
    go : (o : Option Row) → slice_get rows k ≡ o → slice_get (change_at revoked_row rows k) k ≡ option_map revoked_row o
    go None is = row-none rows k is
    go (Some row) is = row_changed revoked_row rows k row is

covers-after : (rows : List Row) (guests : Guests) (position : ℕ) → Covers rows guests → Covers (change_at revoked_row rows position) (guest_changed revoked guests position)
covers-after rows guests position covers k =
    ⊎_elim
    (λ (same : k ≡ position).
    subst (λ (n : ℕ). CoversAt (slice_get (change_at revoked_row rows position) n) (guest_in (guest_changed revoked guests position) n)) (sym same)
    (subst (λ (o : Option Row). CoversAt o (guest_in (guest_changed revoked guests position) position)) (sym (row-fallen rows position))
    (subst (λ (o : Option GuestRecord). CoversAt (option_map revoked_row (slice_get rows position)) o) (sym (changed_here revoked guests position))
    (covers-fallen (slice_get rows position) (guest_in guests position) (covers position)))))
    (λ (ne : k ≢ position).
    subst (λ (o : Option Row). CoversAt o (guest_in (guest_changed revoked guests position) k)) (sym (row_unchanged revoked_row rows position k ne))
    (subst (λ (o : Option GuestRecord). CoversAt (slice_get rows k) o) (sym (other_same revoked guests position k (λ e. ne (sym e)))) (covers k)))
    (cases_eq k position)

within-rows : (rows : List Row) (k : ℕ) → IsRevocable rows k → k < length rows
within-rows [] k can = absurd can
within-rows (row ∷ rows) zero can = omega arith
within-rows (row ∷ rows) (suc k) can = let rest = within-rows rows k can in omega (arith, rest)

above-here : (row : Option Row) (guest : Option GuestRecord) → CoversAt row guest → IsSomeAnd row (λ row. row.min < row.target) → IfSome guest (λ g. g.allotment.min < g.allotment.target)
above-here None guest covers can = absurd can
above-here (Some row) None covers can = tt
above-here (Some row) (Some g) covers can = let same = covers.0 in let least = covers.1 can in omega (arith, same, least, can)

can-give : (rows : List Row) (pool : PoolView) (moves : List ℕ) → length rows ≡ length pool.guests → Covers rows pool.guests
    → EachMove (λ before position. IsRevocable (rows_after rows before) position) moves → CanRevoke pool moves
can-give rows pool [] long covers each = tt
can-give rows pool (position ∷ moves) long covers each =
    let can = each 0 (omega arith) in
    let there = within-rows rows position can in
    let rows_long = length-change revoked_row rows position in
    let guests_long = length-set pool.guests position (option_map revoked (guest_in pool.guests position)) in (
      record {
        within = omega (arith, there, long);
        above = above-here (slice_get rows position) (guest_in pool.guests position) (covers position) can;
      },
      can-give (change_at revoked_row rows position) (changed revoked pool position) moves (omega (arith, rows_long, guests_long, long)) (covers-after rows pool.guests position covers)
          (λ i within. each (suc i) (omega (arith, within))),
    )

pub can-rebalance : (pool : PoolView) (moves : List ℕ) → EachMove (λ before position. IsRevocable (rows_after (giving_rows pool.guests) before) position) moves → CanRevoke pool moves
can-rebalance pool moves each = can-give (giving_rows pool.guests) pool moves (length-map pool.guests giving_at) (covers-giving pool.guests) each

-- ---- a boundary

module _ (policy : Policy) (state : State) (pool : PoolView) where
  abbrev reclaimed : PoolView
  reclaimed = pool_reclaimed policy state pool

  abbrev settled : PoolView
  settled = pool_settled policy state pool

  -- the rows once targets rose
  pub rows-settled : (rowpool : Pool) (moves : List ℕ) → rowpool ≡ plan_pool_of reclaimed → moves ≡ grants_in policy state reclaimed
      → EachMove (λ before position. IsGrantable (pool_after rowpool before) position) moves → rows_granted rowpool.rows moves ≡ rows_of settled.guests
  rows-settled rowpool moves same is each = rows-risen rowpool reclaimed moves same each ∙ ap (λ (moves : List ℕ). rows_of (fold granted_at reclaimed moves).guests) is

  module _ (rows : List Row) (same : rows ≡ rows_of settled.guests) where
    floors-settled : floored_rows (drivers_of pool.guests) rows ≡ giving_rows settled.guests
    floors-settled = (λ i. floored_rows (sym (drivers-settled policy state pool) i) (same i)) ∙ floored-are settled.guests

    -- what is planned by them
    pub moves-settled : rebalances_of policy state (drivers_of pool.guests) rows ≡ rebalances_in policy state settled
    moves-settled = (λ i. rebalances_of policy state (sym (drivers-settled policy state pool) i) (same i)) ∙ rebalances-are policy state settled

    -- it is fair
    pub fair-settled : (moves : List ℕ) → HaveShares (floored_rows (drivers_of pool.guests) rows) → Each policy.tax (floored_rows (drivers_of pool.guests) rows) moves
        → GivesFromCheapest policy.tax settled.guests moves
    fair-settled moves has each =
        fair-rebalancing policy.tax settled.guests moves (subst (λ (rows : List Row). HaveShares rows) floors-settled has)
        (subst (λ (rows : List Row). Each policy.tax rows moves) floors-settled each)

    -- and can be done
    pub can-settled : (moves : List ℕ) → EachMove (λ before position. IsRevocable (rows_after (floored_rows (drivers_of pool.guests) rows) before) position) moves → CanRevoke settled moves
    can-settled moves each =
        can-rebalance settled moves (subst (λ (rows : List Row). EachMove (λ before position. IsRevocable (rows_after rows before) position) moves) floors-settled each)
