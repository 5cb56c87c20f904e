-- A boundary that is planned by rows: the rows follow the guests.
use Rattle.std.proofs.Common.{◌≡◌, ◌∙◌, ℕ, zero, suc, ◌+◌, ◌-◌, ◌<◌, ◌≤◌, ◌&&◌, nat_lt, Bool, true, false, List, [], ◌∷◌, ◌++◌, Option, Some, None, drop, get_or, map, fold, length, if◌then◌else◌, sym, refl, ap, arith}
use Rattle.std.specs.Option.{option_map, option_map_or}
use Rattle.std.proofs.lemmas.List.{drop_more, get_or-map}
use Rattle.vm_guest.specs.Boundary.{ordered, released, revoked}
use Rattle.vm_guest.specs.Record.{GuestRecord}
use Rattle.vm_guest.proofs.BoundaryLemmas.{released-held}
use Rattle.vm_plan.specs.declared.state.State.{State}
use Rattle.vm_plan.specs.declared.state.State.TheVariants.{High, Soft, Hard, Low}
use Rattle.vm_plan.specs.declared.thresholds.Thresholds.{Thresholds}
use Rattle.vm_plan.specs.Grants.{Pool, granted as granted_pool, grant_list, grants_up_to, total_demand}
use Rattle.vm_plan.specs.Moves.{EachMove}
use Rattle.vm_plan.specs.Paging.{page_count_of}
use Rattle.vm_plan.specs.declared.row.PlanRow.{PlanRow}
use Rattle.vm_plan.specs.PlanRow.{row_of as plan_row, rows_of as plan_rows}
use Rattle.vm_plan.specs.Revocation.{IsRevocable, revoked_row, rows_after}
use Rattle.vm_plan.specs.Row.{Row, change_at, wanting_ratios}
use Rattle.vm_pool.specs.Changes.{changed, granted_at, blocked_above, with_orders}
use Rattle.vm_pool.specs.Guests.{Guests, each_changed, each_released, guest_changed, of_running, sum_of}
use Rattle.vm_pool.specs.Pool.{PoolView, total_held}
use Rattle.vm_tax.specs.Offers.{greatest_position}
use Rattle.vm_tax.specs.Ratio.{Tax}
use Rattle.vm_reclaim.specs.Boundary.{pool_reclaimed}
use Rattle.vm_reclaim.specs.declared.lists.Paged.{Paged}
use Rattle.vm_reclaim.specs.Fairness.{TakesFromCheapest}
use Rattle.vm_reclaim.specs.Planning.{CanLower, frames_in, if_paged, paged_row, row_counts, waiting_from, waits_row}
use Rattle.vm_reclaim.specs.Policy.{Policy}
use Rattle.vm_reclaim.specs.Rebalance.{pool_rebalanced}
use Rattle.vm_reclaim.specs.Reclaim.{blocked_from, counts_of, if_blocked, paged_from, pool_granted, pool_revoked, revocations_in, blocks_in}
use Rattle.vm_reclaim.specs.Rows.{idle_row, plan_pool_of, row_at, row_of, rows_of}
use Rattle.vm_reclaim.proofs.DropLemmas.{append-nil, append-one, told-first}
use Rattle.vm_reclaim.proofs.HeldLemmas.{released-bare}
use Rattle.vm_reclaim.proofs.RowLemmas.{rows_changed}

-- ---- rows in turn

-- there is a row that can be lowered
pub within_rows : (rows : List PlanRow) (k : ℕ) → IsRevocable (plan_rows rows) k → k < length rows
within_rows [] k can = absurd can
within_rows (row ∷ rows) zero can = omega arith
within_rows (row ∷ rows) (suc k) can = let rest = within_rows rows k can in omega (arith, rest)

-- the row at a position, as it is read
pub here-read : (rows : List PlanRow) (k : ℕ) (row : PlanRow) → k < length rows → row ≡ get_or rows k row → get_or (plan_rows rows) k (plan_row row) ≡ plan_row row
here-read rows k row there is = get_or-map plan_row rows k row (plan_row row) there ∙ ap plan_row (sym is)

-- one more row is told, or gives up nothing
told-page : (out later : List Paged) (position count : ℕ) (counts : List ℕ) → later ≡ paged_from (position + 1) counts
    → (out ++ if_paged position count) ++ later ≡ out ++ paged_from position (count ∷ counts)
told-page out later position zero counts is = ap (λ l. l ++ later) (append-nil out) ∙ ap (λ l. out ++ l) is
told-page out later position (suc count) counts is = append-one out later (record { position = position; count = suc count }) ∙ ap (λ l. out ++ record { position = position; count = suc count } ∷ l) is

pub step-paged : (f : Row → ℕ) (out : List Paged) (rows : List Row) (i count : ℕ) (row : Row) (whole : List Paged) → i < length rows → get_or rows i row ≡ row → count ≡ f row
    → out ++ paged_from i (map f (drop i rows)) ≡ whole → (out ++ if_paged i count) ++ paged_from (i + 1) (map f (drop (i + 1) rows)) ≡ whole
step-paged f out rows i count row whole there here is done =
    told-page out (paged_from (i + 1) (map f (drop (i + 1) rows))) i count (map f (drop (i + 1) rows)) refl
    ∙ (ap (λ n. out ++ paged_from i (n ∷ map f (drop (i + 1) rows))) (is ∙ ap f (sym here))
    ∙ (ap (λ l. out ++ paged_from i (map f l)) (sym (drop_more rows i row there)) ∙ done))

-- what is told is all that is given up
pub frames-told : (position : ℕ) (counts : List ℕ) → frames_in (paged_from position counts) ≡ sum_of counts
frames-told position [] = refl
frames-told position (zero ∷ counts) = let later = frames-told (position + 1) counts in omega (arith, later)
frames-told position (suc count ∷ counts) = ap (λ n. suc count + n) (frames-told (position + 1) counts)

-- one more row waits, or doesn't
pub step-waiting : (blocks : Bool) (out : List ℕ) (rows : List Row) (i : ℕ) (b : Bool) (row : Row) (whole : List ℕ) → i < length rows → get_or rows i row ≡ row → b ≡ waits_row blocks row
    → out ++ waiting_from i blocks (drop i rows) ≡ whole → (out ++ if_blocked b i) ++ waiting_from (i + 1) blocks (drop (i + 1) rows) ≡ whole
step-waiting blocks out rows i b row whole there here is done =
    let later = waiting_from (i + 1) blocks (drop (i + 1) rows) in
    told-first b out later i
    ∙ (ap (λ c. out ++ (if c then i ∷ later else later)) (is ∙ ap (waits_row blocks) (sym here))
    ∙ (ap (λ l. out ++ waiting_from i blocks l) (sym (drop_more rows i row there)) ∙ done))

-- ---- targets fall

-- the rows after revocations are those of the guests after them
pub rows-fallen : (tax : Tax) (pool : PoolView) (moves : List ℕ) → TakesFromCheapest tax (changed revoked) pool moves
    → rows_after (rows_of pool.guests) moves ≡ rows_of (fold (changed revoked) pool moves).guests
rows-fallen tax pool [] takes = refl
rows-fallen tax pool (position ∷ moves) takes =
    let first = takes.0 in
    ap (λ (rows : List Row). rows_after rows moves) (rows_changed revoked revoked_row pool.guests position first.guest first.here refl)
    ∙ rows-fallen tax (changed revoked pool position) moves takes.1

pub can_lower : (rows : List Row) (moves : List ℕ) → EachMove (λ before position. IsRevocable (rows_after rows before) position) moves → CanLower rows moves
can_lower rows [] each = tt
can_lower rows (position ∷ moves) each =
    (each 0 (omega arith), can_lower (change_at revoked_row rows position) moves (λ i within. each (suc i) (omega (arith, within))))

held-changed : (guests : Guests) (k : ℕ) → total_held (guest_changed revoked guests k) ≡ total_held guests
held-changed [] k = refl
held-changed (None ∷ guests) zero = refl
held-changed (Some g ∷ guests) zero = refl
held-changed (guest ∷ guests) (suc k) = ap (λ n. of_running (λ g. g.memory.held) guest + n) (held-changed guests k)

-- frames are held as before
pub held-fallen : (pool : PoolView) (moves : List ℕ) → total_held (fold (changed revoked) pool moves).guests ≡ total_held pool.guests
held-fallen pool [] = refl
held-fallen pool (position ∷ moves) = held-fallen (changed revoked pool position) moves ∙ held-changed pool.guests position

pub free-fallen : (pool : PoolView) (moves : List ℕ) → (fold (changed revoked) pool moves).free ≡ pool.free
free-fallen pool [] = refl
free-fallen pool (position ∷ moves) = free-fallen (changed revoked pool position) moves

-- ---- guests give up frames

pub counts-are : (state : State) (page_rate : ℕ) (guests : Guests) → row_counts state page_rate (rows_of guests) ≡ counts_of state page_rate guests
counts-are state page_rate [] = refl
counts-are state page_rate (guest ∷ guests) = ap (λ later. page_count_of state (row_at guest) page_rate ∷ later) (counts-are state page_rate guests)

-- what is told of the rows is what the guests give up
pub paging-told : (state : State) (page_rate : ℕ) (told : List Paged) (rows : List Row) (guests : Guests) → rows ≡ rows_of guests → told ≡ paged_from 0 (row_counts state page_rate rows)
    → (told ≡ paged_from 0 (counts_of state page_rate guests)) × (frames_in told ≡ sum_of (counts_of state page_rate guests))
paging-told state page_rate told rows guests are is =
    let all = is ∙ ap (paged_from 0) (ap (row_counts state page_rate) are ∙ counts-are state page_rate guests) in
    (all, ap frames_in all ∙ frames-told 0 (counts_of state page_rate guests))

row-released : (count : ℕ) (g : GuestRecord) → record (row_of g) { held = g.memory.held - count } ≡ row_of (released count g)
row-released count g = λ i. record (sym (released-bare count g) i) { held = sym (released-held count g) i }

idle-count : (state : State) (page_rate : ℕ) → page_count_of state idle_row page_rate ≡ 0
idle-count High page_rate = refl
idle-count Soft page_rate = omega arith
idle-count Hard page_rate = omega arith
idle-count Low page_rate = omega arith

row-paged : (state : State) (page_rate : ℕ) (guest : Option GuestRecord)
    → paged_row state page_rate (row_at guest) ≡ row_at (option_map (released (page_count_of state (row_at guest) page_rate)) guest)
row-paged state page_rate None = ap (λ n. record idle_row { held = 1 - n }) (idle-count state page_rate)
row-paged state page_rate (Some g) = row-released (page_count_of state (row_of g) page_rate) g

-- the rows once guests gave up frames are those of the guests then
pub rows-paged : (state : State) (page_rate : ℕ) (guests : Guests)
    → map (paged_row state page_rate) (rows_of guests) ≡ rows_of (each_released (counts_of state page_rate guests) guests)
rows-paged state page_rate [] = refl
rows-paged state page_rate (guest ∷ guests) = λ i. row-paged state page_rate guest i ∷ rows-paged state page_rate guests i

count-within : (state : State) (page_rate : ℕ) (row : Row) → page_count_of state row page_rate ≤ row.held - row.target
count-within High page_rate row = omega arith
count-within Soft page_rate row = omega arith
count-within Hard page_rate row = omega arith
count-within Low page_rate row = omega arith

pub few-given : (state : State) (page_rate : ℕ) (guest : Option GuestRecord)
    → page_count_of state (row_at guest) page_rate ≤ of_running (λ g. g.memory.held - g.allotment.target) guest
few-given state page_rate None = let none = idle-count state page_rate in omega (arith, none)
few-given state page_rate (Some g) = count-within state page_rate (row_of g)

number-within : (guest : Option GuestRecord) → of_running (λ g. g.memory.held - g.allotment.target) guest ≤ of_running (λ g. g.memory.held) guest
number-within None = omega arith
number-within (Some g) = omega arith

-- no more is given up than is held
pub given-within : (state : State) (page_rate : ℕ) (guests : Guests) → sum_of (counts_of state page_rate guests) ≤ total_held guests
given-within state page_rate [] = omega arith
given-within state page_rate (guest ∷ guests) =
    let few = few-given state page_rate guest in
    let held = number-within guest in
    let rest = given-within state page_rate guests in
    omega (arith, few, held, rest)

-- ---- guests are blocked

no-grant : (n : ℕ) (t : Thresholds) (tax : Tax) (pool : Pool) → grants_up_to n Low t tax pool ≡ []
unfolding grants_up_to
no-grant zero t tax pool = refl
no-grant (suc n) t tax pool = go (greatest_position (wanting_ratios tax pool.rows))
  where
    go : (first : Option ℕ) → option_map_or (λ position. position ∷ grants_up_to n Low t tax (granted_pool pool position))
        (option_map_or (λ (position : ℕ). if false then Some position else None) first None) [] ≡ []
    go None = refl
    go (Some position) = refl

-- in low nothing is granted
pub none-granted : (t : Thresholds) (tax : Tax) (pool : Pool) → grant_list Low t tax pool ≡ []
none-granted t tax pool = no-grant (total_demand pool.rows) t tax pool

never : (blocks : Bool) → (blocks && false) ≡ false
never true = refl
never false = refl

waiting-are : (blocks : Bool) (position : ℕ) (guests : Guests)
    → waiting_from position blocks (rows_of guests) ≡ blocked_from position (each_changed (λ g. ordered g (blocked_above blocks g)) guests)
waiting-are blocks position [] = refl
waiting-are blocks position (None ∷ guests) =
    let later = waiting-are blocks (position + 1) guests in
    ap (λ b. if b then position ∷ waiting_from (position + 1) blocks (rows_of guests) else waiting_from (position + 1) blocks (rows_of guests)) (never blocks) ∙ later
waiting-are blocks position (Some g ∷ guests) =
    ap (λ later. if blocks && nat_lt g.allotment.target g.memory.held then position ∷ later else later) (waiting-are blocks (position + 1) guests)

pub none-waits : (position : ℕ) (rows : List Row) → waiting_from position false rows ≡ []
none-waits position [] = refl
none-waits position (row ∷ rows) = none-waits (position + 1) rows

none-blocked : (position : ℕ) (guests : Guests) → blocked_from position (each_changed (λ g. ordered g (blocked_above false g)) guests) ≡ []
none-blocked position [] = refl
none-blocked position (None ∷ guests) = none-blocked (position + 1) guests
none-blocked position (Some g ∷ guests) = none-blocked (position + 1) guests

all-run : (rows : List Row) (pool : PoolView) → waiting_from 0 false rows ≡ blocked_from 0 (with_orders false pool).guests
all-run rows pool = none-waits 0 rows ∙ sym (none-blocked 0 pool.guests)

-- the guests that are blocked are those that hold more than their targets before anything is granted
pub blocked-are : (policy : Policy) (state : State) (pool : PoolView)
    → waiting_from 0 (blocks_in state) (rows_of pool.guests) ≡ blocked_from 0 (with_orders (blocks_in state) (pool_rebalanced policy state (pool_granted policy state pool))).guests
blocked-are policy High pool = all-run (rows_of pool.guests) (pool_rebalanced policy High (pool_granted policy High pool))
blocked-are policy Soft pool = all-run (rows_of pool.guests) (pool_granted policy Soft pool)
blocked-are policy Hard pool = all-run (rows_of pool.guests) (pool_granted policy Hard pool)
blocked-are policy Low pool =
    waiting-are true 0 pool.guests
    ∙ ap (λ (moves : List ℕ). blocked_from 0 (with_orders true (fold granted_at pool moves)).guests) (sym (none-granted policy.thresholds policy.tax (plan_pool_of pool)))

-- ---- what grants are planned from

-- the frames that are free then, and the rows, are those of the pool once targets fell and guests gave up frames
pub pool-planned : (policy : Policy) (state : State) (pool : PoolView) (free : ℕ) (told : List Paged) (fallen paged : List Row) → fallen ≡ rows_of (pool_revoked policy state pool).guests
    → told ≡ paged_from 0 (row_counts state policy.page_rate fallen) → paged ≡ map (paged_row state policy.page_rate) fallen → free ≡ pool.free + frames_in told
    → record { free = free; rows = paged } ≡ plan_pool_of (pool_reclaimed policy state pool)
pool-planned policy state pool free told fallen paged rows tells left frees =
    let guests = (pool_revoked policy state pool).guests in
    let given = paging-told state policy.page_rate told fallen guests rows tells in
    let before = free-fallen pool (revocations_in policy state pool) in
    λ i. record {
      free = (frees ∙ (λ j. sym before j + given.1 j)) i;
      rows = (left ∙ (ap (map (paged_row state policy.page_rate)) rows ∙ rows-paged state policy.page_rate guests)) i;
    }
