-- The pages that a boundary moves from guest to guest: each is given fairly, and each target can fall.
use Rattle.std.proofs.Common.{◌≡◌, List, [], ◌∷◌, ℕ, None, Some, ap, refl, subst}
use Rattle.vm_guest.specs.Good.{IsGood}
use Rattle.vm_plan.specs.declared.state.State.{State}
use Rattle.vm_plan.specs.declared.state.State.TheVariants.{High, Soft, Hard, Low}
use Rattle.vm_plan.specs.Rebalancing.{rebalancing_list}
use Rattle.vm_plan.specs.Row.{HaveShares}
use Rattle.vm_plan.proofs.KeepLemmas.{Each, rebalancing_applies}
use Rattle.vm_plan.proofs.RebalanceLemmas.{rebalancing_list-meets}
use Rattle.vm_pool.specs.CanMove.{CanRevoke}
use Rattle.vm_pool.specs.Guests.{Guests, EachRunning}
use Rattle.vm_pool.specs.Pool.{PoolView, EachGuest}
use Rattle.vm_reclaim.specs.Fairness.{GivesFromCheapest}
use Rattle.vm_reclaim.specs.Planning.{drivers_of, floored_rows}
use Rattle.vm_reclaim.specs.Policy.{Policy}
use Rattle.vm_reclaim.specs.Rebalance.{giving_at, giving_row, giving_rows, has_own_driver, most_moved, rebalances_in}
use Rattle.vm_reclaim.specs.Rows.{row_of, rows_of}
use Rattle.vm_reclaim.proofs.BalanceLemmas.{can-rebalance, giving-shares}
use Rattle.vm_reclaim.proofs.FairLemmas.{rows-shares}
use Rattle.vm_reclaim.proofs.GivingLemmas.{fair-rebalancing}

-- the rows with the floors of their drivers are those that give
floored-are : (guests : Guests) → floored_rows (drivers_of guests) (rows_of guests) ≡ giving_rows guests
floored-are [] = refl
floored-are (None ∷ guests) = ap (λ later. giving_at None ∷ later) (floored-are guests)
floored-are (Some g ∷ guests) = ap (λ later. giving_row (has_own_driver g) (row_of g) ∷ later) (floored-are guests)

-- all rows have shares, as the law of the one list asks
shares-given : (guests : Guests) → EachRunning IsGood guests → HaveShares (giving_rows guests)
shares-given guests good =
    subst HaveShares (floored-are guests) (giving-shares (drivers_of guests) (rows_of guests) [] (rows-shares guests good))

-- who gives in High
abbrev givers : Policy → PoolView → List ℕ
givers policy pool = rebalancing_list policy.tax (most_moved policy.rebalance pool) (giving_rows pool.guests)

each-gives : (policy : Policy) (pool : PoolView) → EachGuest IsGood pool → Each policy.tax (giving_rows pool.guests) (givers policy pool)
each-gives policy pool good =
    (rebalancing_list-meets policy.tax (most_moved policy.rebalance pool) (giving_rows pool.guests) (shares-given pool.guests good)).each_next

pub gives-fairly : (policy : Policy) (state : State) (pool : PoolView) → EachGuest IsGood pool → GivesFromCheapest policy.tax pool.guests (rebalances_in policy state pool)
gives-fairly policy High pool good = fair-rebalancing policy.tax pool.guests (givers policy pool) (shares-given pool.guests good) (each-gives policy pool good)
gives-fairly policy Soft pool good = tt
gives-fairly policy Hard pool good = tt
gives-fairly policy Low pool good = tt

pub can-give : (policy : Policy) (state : State) (pool : PoolView) → EachGuest IsGood pool → CanRevoke pool (rebalances_in policy state pool)
can-give policy High pool good =
    can-rebalance pool (givers policy pool) (rebalancing_applies policy.tax (giving_rows pool.guests) (givers policy pool) (shares-given pool.guests good) (each-gives policy pool good))
can-give policy Soft pool good = tt
can-give policy Hard pool good = tt
can-give policy Low pool good = tt
