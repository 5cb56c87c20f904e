-- Grants to one guest that follow each other, revocations from one, and pages that go from one to another; in a rebalancing, who would be
-- granted a page first: for private contracts alone.
use Rattle.std.specs.Prelude.{ℕ, List, Option, ◌≢◌, ◌+◌, ◌-◌, ◌<◌, ◌≤◌, IfSome, IsSomeAnd, min, max, replicate, slice_get}
use Rattle.vm_tax.specs.Ratio.{Ratio, Tax, IsAbove, IsBelow, IsLess}
use Rattle.vm_tax.specs.Offers.{IsLeast}
use Rattle.vm_plan.specs.declared.state.State.{State}
use Rattle.vm_plan.specs.declared.thresholds.Thresholds.{Thresholds}
use Rattle.vm_plan.specs.Row.{Row, ratio_with, revocable_ratios, wanting_ratio, change_at}
use Rattle.vm_plan.specs.Revocation.{rows_after}
use Rattle.vm_plan.specs.Moves.{EachMove}
use Rattle.vm_plan.specs.Grants.{Pool, IsNextGrant, pool_after}
use Rattle.vm_plan.specs.Rebalancing.{IsTransfer}

-- ---- grants

-- a guest that got so many pages, where it held its target
abbrev pub grown_row : ℕ → Row → Row
grown_row count row = record row { target = row.target + count; held = max row.held (row.target + count); demand = row.demand - count }

-- the free frames that this takes
abbrev pub frames_for_all : ℕ → Row → ℕ
frames_for_all count row = (row.target + count) - row.held

-- so many pages can be given at once where so many frames are free
pub record CanGrowBy (count free : ℕ) (row : Row) : Type 0 where
  pub some : 1 ≤ count
  pub demand : count ≤ row.demand
  pub room : row.target + count ≤ row.cap
  pub held : row.target ≤ row.held
  pub enough : frames_for_all count row ≤ free

-- as many as a guest wants, its cap lets it have, and the frames above the threshold of Soft suffice for
abbrev pub affordable : Thresholds → ℕ → Row → ℕ
affordable t free row = min (min row.demand (row.cap - row.target)) ((row.held - row.target) + (free - t.soft))

-- the guest with so many pages comes before another one, whose price is this
abbrev pub IsAhead : Tax → Row → (position pages : ℕ) → Ratio → ℕ → Type 0
IsAhead tax row position pages rival other = IsAbove (ratio_with tax row pages) position rival other

-- Each of so many grants to a guest is the next one after those before it, and they can be given at once.
pub record IsRun (state : State) (t : Thresholds) (tax : Tax) (pool : Pool) (position count : ℕ) : Type 0 where
  pub each_next : EachMove (λ before move. IsNextGrant state t tax (pool_after pool before) move) (replicate count position)
  pub can : IsSomeAnd (slice_get pool.rows position) (CanGrowBy count pool.free)

-- ---- revocations

-- a guest that lost so many pages of its target
abbrev pub lowered_row : ℕ → Row → Row
lowered_row count row = record row { target = row.target - count }

-- so many pages can be taken at once
pub record CanLose (count : ℕ) (row : Row) : Type 0 where
  pub some : 1 ≤ count
  pub above : row.min + count ≤ row.target

-- the guest with so many pages is taken from before another one, whose price is this
abbrev pub IsBehind : Tax → Row → (position pages : ℕ) → Ratio → ℕ → Type 0
IsBehind tax row position pages rival other = IsBelow (ratio_with tax row pages) position rival other

-- Each of so many revocations from a guest takes from the least price after those before it, and they can be done at once.
pub record IsFall (tax : Tax) (rows : List Row) (position count : ℕ) : Type 0 where
  pub each_least : EachMove (λ before move. IsLeast (revocable_ratios tax (rows_after rows before)) move) (replicate count position)
  pub can : IsSomeAnd (slice_get rows position) (CanLose count)

-- ---- rebalancing

-- a guest that took so many pages
abbrev pub raised_row : ℕ → Row → Row
raised_row count row = record row { target = row.target + count; demand = row.demand - count }

-- With such a price the guest at a position would be granted a page before another guest, or is that guest.
abbrev pub Leads : Tax → Ratio → (position : ℕ) → Row → (other : ℕ) → Type 0
Leads tax price position row other = position ≢ other → IfSome (wanting_ratio tax row) (λ that. IsAbove price position that other)

-- .. before each other guest
abbrev pub LeadsAll : Tax → Ratio → (position : ℕ) → List Row → Type 0
LeadsAll tax price position rows = (other : ℕ) → IfSome (slice_get rows other) (λ row. Leads tax price position row other)

-- the guests after so many pages went from one to another
abbrev pub rows_moved : List Row → (giver taker count : ℕ) → List Row
rows_moved rows giver taker count = change_at (raised_row count) (change_at (lowered_row count) rows giver) taker

-- Each of so many pages that go from one guest to another is the next one after those before it.
pub record IsFlow (tax : Tax) (rows : List Row) (giver taker count : ℕ) : Type 0 where
  pub some : 1 ≤ count
  pub each_next : (k : ℕ) → k < count → IsTransfer tax (rows_moved rows giver taker k) giver taker

-- at such a price a guest gives before its rival, if it has one
abbrev pub GivesFirst : Tax → List Row → Ratio → (position : ℕ) → (rival : Option ℕ) → Type 0
GivesFirst tax rows price position rival = IfSome rival (λ other. IfSome (slice_get rows other) (λ row. IsBelow price position (ratio_with tax row row.target) other))

-- a guest that pays so much takes before its rival, if it has one
abbrev pub TakesFirst : Tax → List Row → Ratio → (position : ℕ) → (rival : Option ℕ) → Type 0
TakesFirst tax rows price position rival = IfSome rival (λ other. IfSome (slice_get rows other) (λ row. IsAbove price position (ratio_with tax row (row.target + 1)) other))

-- After so many pages went, one more that the giver gave would be granted to the taker before it.
abbrev pub IsKept : Tax → (from to : Row) → (giver taker given : ℕ) → Type 0
IsKept tax from to giver taker given = 0 < from.demand → ¬ IsAbove (ratio_with tax from ((from.target - given) - 1)) giver (ratio_with tax to (to.target + given)) taker

-- After so many pages went from one guest to another, the next one goes the same way: neither rival comes first, the taker would pay more, and
-- the page doesn't come straight back.
pub record GoesOn (tax : Tax) (rows : List Row) (from to : Row) (giver taker : ℕ) (giving taking : Option ℕ) (given : ℕ) : Type 0 where
  pub gives : GivesFirst tax rows (ratio_with tax from (from.target - given)) giver giving
  pub takes : TakesFirst tax rows (ratio_with tax to ((to.target + given) + 1)) taker taking
  pub more : IsLess (ratio_with tax from (from.target - given)) (ratio_with tax to ((to.target + given) + 1))
  pub stays : IsKept tax from to giver taker given
