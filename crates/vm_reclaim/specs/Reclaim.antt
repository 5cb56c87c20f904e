-- What a host takes from its guests and gives them once the state of its memory is found: targets fall (revocation), guests give up
-- frames (paging), and targets rise (grants) (Waldspurger, OSDI 2002, sections 5.1, 5.2 and 6.3).
use Rattle.std.specs.Prelude.{ℕ, ◌+◌, zero, suc, Bool, true, false, List, [], ◌∷◌, map, fold, Option, if◌then◌else◌}
use Rattle.std.specs.Option.{option_map_or}
use Rattle.vm_guest.specs.Boundary.{revoked}
use Rattle.vm_guest.specs.Record.{GuestRecord}
use Rattle.vm_plan.specs.declared.state.State.{State}
use Rattle.vm_plan.specs.declared.state.State.TheVariants.{High, Soft, Hard, Low}
use Rattle.vm_plan.specs.Grants.{grant_list}
use Rattle.vm_plan.specs.Paging.{page_count_of}
use Rattle.vm_plan.specs.Revocation.{revocation_list, shortfall_of}
use Rattle.vm_pool.specs.Changes.{changed, granted_at, with_released}
use Rattle.vm_pool.specs.Guests.{Guests}
use Rattle.vm_pool.specs.Pool.{PoolView}
use Rattle.vm_reclaim.specs.declared.lists.Paged.{Paged}
use Rattle.vm_reclaim.specs.Policy.{Policy}
use Rattle.vm_reclaim.specs.Rows.{plan_pool_of, row_at, rows_of}

-- how many pages are to be taken
abbrev pub wanted_in : Policy → State → PoolView → ℕ
wanted_in policy state pool = shortfall_of state pool.free policy.thresholds (rows_of pool.guests)

-- the guests that lose a page of their target, in order, one for each page
abbrev pub revocations_in : Policy → State → PoolView → List ℕ
revocations_in policy state pool = revocation_list policy.tax (wanted_in policy state pool) (rows_of pool.guests)

abbrev pub pool_revoked : Policy → State → PoolView → PoolView
pool_revoked policy state pool = fold (changed revoked) pool (revocations_in policy state pool)

-- how many frames each guest gives up
abbrev pub counts_of : State → ℕ → Guests → List ℕ
counts_of state page_rate guests = map (λ guest. page_count_of state (row_at guest) page_rate) guests

abbrev pub pool_paged : Policy → State → PoolView → PoolView
pool_paged policy state pool = with_released (counts_of state policy.page_rate pool.guests) pool

-- the guests that are granted a page, in order, one for each page
abbrev pub grants_in : Policy → State → PoolView → List ℕ
grants_in policy state pool = grant_list state policy.thresholds policy.tax (plan_pool_of pool)

abbrev pub pool_granted : Policy → State → PoolView → PoolView
pool_granted policy state pool = fold granted_at pool (grants_in policy state pool)

-- the guests that give up frames, from a position on
abbrev pub paged_from : ℕ → List ℕ → List Paged
paged_from position [] = []
paged_from position (zero ∷ counts) = paged_from (position + 1) counts
paged_from position (suc count ∷ counts) = record { position = position; count = suc count } ∷ paged_from (position + 1) counts

-- whether a guest runs and is blocked
abbrev pub is_blocked : Option GuestRecord → Bool
is_blocked guest = option_map_or (λ g. g.progress.blocked) guest false

-- the position, where it is told
abbrev pub if_blocked : Bool → ℕ → List ℕ
if_blocked true position = position ∷ []
if_blocked false position = []

-- the guests that are blocked, from a position on
abbrev pub blocked_from : ℕ → Guests → List ℕ
blocked_from position [] = []
blocked_from position (guest ∷ guests) =
    if is_blocked guest
    then position ∷ blocked_from (position + 1) guests
    else blocked_from (position + 1) guests

-- whether guests that hold more than their targets are blocked in a state
abbrev pub blocks_in : State → Bool
blocks_in Low = true
blocks_in High = false
blocks_in Soft = false
blocks_in Hard = false
