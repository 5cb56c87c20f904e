-- A boundary is planned by rows: for private contracts alone.
use Rattle.std.specs.Prelude.{◌≡◌, ℕ, zero, suc, ◌+◌, ◌-◌, ◌<◌, ◌⊎◌, ◌&&◌, ⊤, Bool, true, false, List, [], ◌∷◌, IsSomeAnd, IsTrue, Option, fold, map, max, min, nat_lt, slice_get, if◌then◌else◌}
use Rattle.std.specs.List.{list_any}
use Rattle.std.specs.Option.{option_map_or}
use Rattle.vm_guest.specs.Record.{GuestRecord}
use Rattle.vm_plan.specs.declared.state.State.{State}
use Rattle.vm_plan.specs.declared.state.State.TheVariants.{High, Soft, Hard, Low}
use Rattle.vm_plan.specs.Grants.{LetsGrow, granted_row}
use Rattle.vm_plan.specs.Paging.{page_count_of}
use Rattle.vm_plan.specs.Rebalancing.{rebalancing_list}
use Rattle.vm_plan.specs.Revocation.{IsRevocable, revoked_row}
use Rattle.vm_plan.specs.Row.{Row, change_at, wants_to_grow}
use Rattle.vm_pool.specs.Guests.{Guests}
use Rattle.vm_pool.specs.Pool.{PoolView}
use Rattle.vm_reclaim.specs.declared.lists.Paged.{Paged}
use Rattle.vm_reclaim.specs.Policy.{Policy}
use Rattle.vm_reclaim.specs.Rebalance.{giving_row, has_own_driver}
use Rattle.vm_reclaim.specs.Rows.{rows_of}

-- there is a guest above its minimum for each of these, one after the other
abbrev pub CanLower : List Row → List ℕ → Type 0
CanLower rows [] = ⊤
CanLower rows (position ∷ moves) = IsRevocable rows position × CanLower (change_at revoked_row rows position) moves

-- how many frames each guest gives up by paging
abbrev pub row_counts : State → ℕ → List Row → List ℕ
row_counts state page_rate rows = map (λ row. page_count_of state row page_rate) rows

-- a guest that gave them up
abbrev pub paged_row : State → ℕ → Row → Row
paged_row state page_rate row = record row { held = row.held - page_count_of state row page_rate }

-- the guest at a position and its count, where that is not 0
abbrev pub if_paged : ℕ → ℕ → List Paged
if_paged position zero = []
if_paged position (suc count) = record { position = position; count = suc count } ∷ []

-- how many frames are given up together
abbrev pub frames_in : List Paged → ℕ
frames_in [] = 0
frames_in (paged ∷ later) = paged.count + frames_in later

-- whether a guest is blocked, where `blocks` says whether guests above their targets are
abbrev pub waits_row : Bool → Row → Bool
waits_row blocks row = blocks && nat_lt row.target row.held

-- the guests that are blocked, from a position on
abbrev pub waiting_from : ℕ → Bool → List Row → List ℕ
waiting_from position blocks [] = []
waiting_from position blocks (row ∷ rows) =
    if waits_row blocks row
    then position ∷ waiting_from (position + 1) blocks rows
    else waiting_from (position + 1) blocks rows

-- ---- targets that fall for guests that would pay more

-- in High, pages may move from guest to guest
abbrev pub MovesPages : ℕ → State → Type 0
MovesPages rebalance state = (state ≡ High) × (0 < rebalance)

-- the row at a position wants a page, and its cap lets it have one
abbrev pub IsGrantableRow : List Row → ℕ → Type 0
IsGrantableRow rows position = IsSomeAnd (slice_get rows position) (λ row. (0 < row.demand) × (row.target < row.cap))

-- there is such a row for each of these, one after the other
abbrev pub CanRise : List Row → List ℕ → Type 0
CanRise rows [] = ⊤
CanRise rows (position ∷ moves) = IsGrantableRow rows position × CanRise (change_at granted_row rows position) moves

-- the rows after these grants
abbrev pub rows_granted : List Row → List ℕ → List Row
rows_granted rows moves = fold (change_at granted_row) rows moves

-- the pages that the guests of these rows want and may have
abbrev pub unmet_in : List Row → ℕ
unmet_in [] = 0
unmet_in (row ∷ rows) = min row.demand (row.cap - row.target) + unmet_in rows

-- whether the guest has a driver of its own; where none runs, the row gives nothing in either case
abbrev pub own_driver_in : Option GuestRecord → Bool
own_driver_in guest = option_map_or has_own_driver guest true

-- which guests have
abbrev pub drivers_of : Guests → List Bool
drivers_of guests = map own_driver_in guests

-- the frames above the target that the guest of a row doesn't use, which its balloon returns
abbrev pub returning_row : (own_driver : Bool) → Row → ℕ
returning_row true row = row.held - max row.target row.used
returning_row false row = 0

-- those of all rows
abbrev pub returning_in : List Bool → List Row → ℕ
returning_in (own_driver ∷ drivers) (row ∷ rows) = returning_row own_driver row + returning_in drivers rows
returning_in _ _ = 0

-- the rows with their floors as minimums
abbrev pub floored_rows : List Bool → List Row → List Row
floored_rows (own_driver ∷ drivers) (row ∷ rows) = giving_row own_driver row ∷ floored_rows drivers rows
floored_rows _ _ = []

-- the most pages that move
abbrev pub most_moved_of : ℕ → List Bool → List Row → ℕ
most_moved_of rebalance drivers rows = min rebalance (unmet_in rows) - returning_in drivers rows

-- the guests whose targets fall, from the rows after grants
abbrev pub rebalances_of : Policy → State → List Bool → List Row → List ℕ
rebalances_of policy High drivers rows =
    rebalancing_list policy.tax (most_moved_of policy.rebalance drivers rows) (floored_rows drivers rows)
rebalances_of policy Soft drivers rows = []
rebalances_of policy Hard drivers rows = []
rebalances_of policy Low drivers rows = []

-- ---- nothing is to be done

-- Enough frames are free for guests to grow, or pages may move from guest to guest, and some guest wants to grow.
pub record CanRiseInHigh (policy : Policy) (pool : PoolView) : Type 0 where
  pub lets : LetsGrow High policy.thresholds pool.free ⊎ (0 < policy.rebalance)
  pub wants : IsTrue (list_any wants_to_grow (rows_of pool.guests))

-- nothing is taken, and no guest that wants to grow may, nor would others give for it
abbrev pub IsAtRest : Policy → State → PoolView → Type 0
IsAtRest policy state pool = (state ≡ High) × ¬ CanRiseInHigh policy pool
