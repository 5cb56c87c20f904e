-- Idle memory moves to guests that would pay more for it (Waldspurger, OSDI 2002, section 6.3): in High, targets fall by pages that other
-- guests want. What balloons return of them is free at later boundaries, and is granted then.
use Rattle.std.specs.Prelude.{ℕ, ◌-◌, Bool, true, false, List, [], Option, None, Some, fold, map, max, min}
use Rattle.vm_guest.specs.Boundary.{revoked}
use Rattle.vm_guest.specs.Record.{GuestRecord}
use Rattle.vm_pages.specs.Pages.{count}
use Rattle.vm_plan.specs.declared.state.State.{State}
use Rattle.vm_plan.specs.declared.state.State.TheVariants.{High, Soft, Hard, Low}
use Rattle.vm_plan.specs.Rebalancing.{rebalancing_list}
use Rattle.vm_plan.specs.Row.{Row}
use Rattle.vm_pool.specs.Changes.{changed}
use Rattle.vm_pool.specs.Guests.{Guests, total}
use Rattle.vm_pool.specs.Pool.{PoolView}
use Rattle.vm_reclaim.specs.Policy.{Policy}
use Rattle.vm_reclaim.specs.Rows.{idle_row, row_of}

-- whether a guest has a driver of its own, which posts pages as it is asked
unfoldable pub has_own_driver : GuestRecord → Bool
has_own_driver g = g.config.own_driver

-- What a guest can't give without paging: the greater of its minimum and what it uses, at most its target. From a guest without a driver
-- of its own no page comes as it is asked, so that is its target.
abbrev pub floor_of : (own_driver : Bool) → Row → ℕ
floor_of true row = min row.target (max row.min row.used)
floor_of false row = row.target

-- a row with its floor as minimum
abbrev pub giving_row : (own_driver : Bool) → Row → Row
giving_row own_driver row = record row { min = floor_of own_driver row }

abbrev pub giving_at : Option GuestRecord → Row
giving_at None = idle_row
giving_at (Some g) = giving_row (has_own_driver g) (row_of g)

abbrev pub giving_rows : Guests → List Row
giving_rows guests = map giving_at guests

-- ---- how much moves

-- the pages that a guest wants and its cap lets it have
abbrev pub unmet_of : GuestRecord → ℕ
unmet_of g = min g.allotment.demand (g.allotment.cap - g.allotment.target)

-- the pages that guests want and may have
abbrev pub unmet_demand : PoolView → ℕ
unmet_demand pool = total unmet_of pool.guests

-- the frames above the target that a guest doesn't use, which its balloon returns
abbrev pub returning_by : (own_driver : Bool) → GuestRecord → ℕ
returning_by true g = g.memory.held - max g.allotment.target (count g.used)
returning_by false g = 0

abbrev pub returning_of : GuestRecord → ℕ
returning_of g = returning_by (has_own_driver g) g

-- the frames that are on their way: balloons return them, so that they are free at a later boundary
abbrev pub on_its_way : PoolView → ℕ
on_its_way pool = total returning_of pool.guests

-- the most pages that move: no more than guests want, less what is on its way to them
abbrev pub most_moved : ℕ → PoolView → ℕ
most_moved rebalance pool = min rebalance (unmet_demand pool) - on_its_way pool

-- ---- what is done

-- the guests that lose a page of their target for guests that would pay more, in order, one for each page: in High alone
abbrev pub rebalances_in : Policy → State → PoolView → List ℕ
rebalances_in policy High pool = rebalancing_list policy.tax (most_moved policy.rebalance pool) (giving_rows pool.guests)
rebalances_in policy Soft pool = []
rebalances_in policy Hard pool = []
rebalances_in policy Low pool = []

-- no target rises here, and no frame moves
abbrev pub pool_rebalanced : Policy → State → PoolView → PoolView
pool_rebalanced policy state pool = fold (changed revoked) pool (rebalances_in policy state pool)
