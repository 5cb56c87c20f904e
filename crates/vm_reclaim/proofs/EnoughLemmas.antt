-- What admission covers can be had: where the frames of a machine cover what its guests are promised, room can be made for it.
use Rattle.std.proofs.Common.{◌≡◌, ◌∙◌, ℕ, zero, suc, ◌+◌, ◌-◌, ◌*◌, ◌<◌, ◌≤◌, List, [], ◌∷◌, All, IsNone, Option, Some, None, length, fold, min, max, ⊎_elim, ◌⊎◌, inl, inr, sym, refl, ap, subst, arith}
use Rattle.std.specs.Prelude.{slice_index_or}
use Rattle.std.specs.Option.{option_map}
use Rattle.std.proofs.lemmas.Bool.{cases_lt}
use Rattle.std.proofs.lemmas.List.Elements.{All-head, All-tail}
use Rattle.vm_guest.specs.Boundary.{released, revoked, surplus, with_min}
use Rattle.vm_guest.specs.Good.{IsGood}
use Rattle.vm_guest.specs.Record.{GuestRecord}
use Rattle.vm_guest.specs.declared.allotment.Allotment.{Allotment}
use Rattle.vm_guest.proofs.BoundaryLemmas.{released-allotment}
use Rattle.vm_plan.specs.Moves.{EachMove}
use Rattle.vm_plan.specs.Revocation.{IsRevocable, IsRevocationList, revoked_row, rows_after}
use Rattle.vm_plan.specs.Row.{Row, change_at, revocable_ratio, revocable_ratios}
use Rattle.vm_plan.proofs.Places.{revocable_row}
use Rattle.vm_pool.specs.Changes.{lacking, taken_at}
use Rattle.vm_pool.specs.Guests.{Guests, each_released, guest_changed, guest_in, of_running, sum_of, total}
use Rattle.vm_pool.specs.Pool.{PoolView, Conserves, EachGuest, running_count, total_held}
use Rattle.vm_tax.specs.Offers.{IsLeast}
use Rattle.vm_tax.specs.Ratio.{Ratio, Tax}
use Rattle.vm_reclaim.specs.declared.room.Raise.{Raise}
use Rattle.vm_reclaim.specs.Enough.{CoversMinimum, CoversStart, promised_to}
use Rattle.vm_reclaim.specs.Fairness.{TakesFromCheapest}
use Rattle.vm_reclaim.specs.Making.{HasRoomToRaise, HasRoomToStart, IsNeededFor}
use Rattle.vm_reclaim.specs.Room.{lacking_at, needed_to_start, raise_to, raised, room_made, surplus_counts, surplus_shares, revocations_for_room, with_surplus_back}
use Rattle.vm_reclaim.specs.Rows.{rows_of}
use Rattle.vm_sound.specs.Sound.{IsSoundPool}
use Rattle.vm_reclaim.proofs.CanLemmas.{changed_here}
use Rattle.vm_reclaim.proofs.FairLemmas.{fair-command, guests-taken, not-above}
use Rattle.vm_reclaim.proofs.HeldLemmas.{change-suc}
use Rattle.vm_reclaim.proofs.RoomLemmas.{list_of_room}
use Rattle.vm_reclaim.proofs.RowLemmas.{length-raised, length-shares, shares_within}
use Rattle.vm_reclaim.proofs.TakeLemmas.{IsNotAbove, low_left, not_above_taken, other_same, raised_other, raised_taken, released_in}

-- ---- rows: each revocation takes a page of some target, and no minimum changes

abbrev total_of : (Row → ℕ) → List Row → ℕ
total_of number [] = 0
total_of number (row ∷ rows) = number row + total_of number rows

abbrev targets : List Row → ℕ
targets rows = total_of (λ row. row.target) rows

abbrev minimums : List Row → ℕ
minimums rows = total_of (λ row. row.min) rows

targets-revoked : (rows : List Row) (k : ℕ) → IsRevocable rows k → targets (change_at revoked_row rows k) + 1 ≡ targets rows
targets-revoked [] k above = absurd above
targets-revoked (row ∷ rows) zero above = omega (arith, above)
targets-revoked (row ∷ rows) (suc k) above =
    let rest = targets-revoked rows k above in
    let whole = ap targets (change-suc revoked_row row rows k) in
    omega (arith, rest, whole)

minimums-revoked : (rows : List Row) (k : ℕ) → minimums (change_at revoked_row rows k) ≡ minimums rows
minimums-revoked [] k = refl
minimums-revoked (row ∷ rows) zero = refl
minimums-revoked (row ∷ rows) (suc k) =
    ap minimums (change-suc revoked_row row rows k) ∙ ap (λ n. row.min + n) (minimums-revoked rows k)

targets-after : (tax : Tax) (rows : List Row) (moves : List ℕ) → EachMove (λ before position. IsLeast (revocable_ratios tax (rows_after rows before)) position) moves
    → targets (rows_after rows moves) + length moves ≡ targets rows
targets-after tax rows [] each = omega arith
targets-after tax rows (position ∷ moves) each =
    let least : IsLeast (revocable_ratios tax rows) position = each 0 (omega arith) in
    let first = targets-revoked rows position (revocable_row tax rows position least.ratio least.here) in
    let rest = targets-after tax (change_at revoked_row rows position) moves (λ i within. each (suc i) (omega (arith, within))) in
    omega (arith, first, rest)

minimums-after : (rows : List Row) (moves : List ℕ) → minimums (rows_after rows moves) ≡ minimums rows
minimums-after rows [] = refl
minimums-after rows (position ∷ moves) = minimums-after (change_at revoked_row rows position) moves ∙ minimums-revoked rows position

at-minimum : (tax : Tax) (rows : List Row) → All IsNone (revocable_ratios tax rows) → targets rows ≤ minimums rows
at-minimum tax [] none = omega arith
at-minimum tax (row ∷ rows) none =
    let first = not-above tax row (All-head (λ (o : Option Ratio). IsNone o) (revocable_ratio tax row) (revocable_ratios tax rows) none) in
    let rest = at-minimum tax rows (All-tail (λ (o : Option Ratio). IsNone o) (revocable_ratio tax row) (revocable_ratios tax rows) none) in
    omega (arith, first, rest)

-- there are as many revocations as are wanted, or as many as there are pages above minimums
enough-moves : (tax : Tax) (wanted : ℕ) (rows : List Row) (moves : List ℕ) → IsRevocationList tax wanted rows moves
    → (wanted ≤ length moves) ⊎ (targets rows ≤ length moves + minimums rows)
enough-moves tax wanted rows moves list =
    ⊎_elim
    (λ (short : length moves < wanted).
    let after = targets-after tax rows moves list.each_least in
    let kept = minimums-after rows moves in
    let none = at-minimum tax (rows_after rows moves) (list.no_fewer short) in
    inr (omega (arith, after, kept, none)))
    (λ (long : wanted ≤ length moves). inl long)
    (cases_lt (length moves) wanted)

-- ---- guests: what they hold, and what they are promised

abbrev min_of : GuestRecord → ℕ
min_of g = g.allotment.min

abbrev target_of : GuestRecord → ℕ
target_of g = g.allotment.target

rows-totals : (guests : Guests) → targets (rows_of guests) + total min_of guests ≡ minimums (rows_of guests) + total target_of guests
rows-totals [] = omega arith
rows-totals (None ∷ guests) = let rest = rows-totals guests in omega (arith, rest)
rows-totals (Some g ∷ guests) = let rest = rows-totals guests in omega (arith, rest)

sum-shares : (short : ℕ) (guests : Guests) → sum_of (surplus_shares short guests) ≡ min short (total surplus guests)
sum-shares short [] = omega arith
sum-shares short (guest ∷ guests) = let rest = sum-shares (short - of_running surplus guest) guests in omega (arith, rest)

promised-is : (overhead : ℕ) (guests : Guests) → total (promised_to overhead) guests ≡ total min_of guests + overhead * running_count guests
promised-is overhead [] = omega arith
promised-is overhead (None ∷ guests) = let rest = promised-is overhead guests in omega (arith, rest)
promised-is overhead (Some g ∷ guests) = let rest = promised-is overhead guests in omega (arith, rest)

held-within : (guests : Guests) → total_held guests ≤ total surplus guests + total target_of guests
held-within [] = omega arith
held-within (None ∷ guests) = let rest = held-within guests in omega (arith, rest)
held-within (Some g ∷ guests) = let rest = held-within guests in omega (arith, rest)

-- a number of what is allotted is the same once frames were given up, also where a minimum is raised
released-number : (number : Allotment → ℕ) (n : ℕ) (guest : Option GuestRecord)
    → of_running (λ g. number g.allotment) (option_map (released n) guest) ≡ of_running (λ g. number g.allotment) guest
released-number number n None = refl
released-number number n (Some g) = ap number (released-allotment n g)

raised-number : (number : Allotment → ℕ) (least n : ℕ) (guest : Option GuestRecord)
    → of_running (λ g. number (with_min g least).allotment) (option_map (released n) guest) ≡ of_running (λ g. number (with_min g least).allotment) guest
raised-number number least n guest = released-number (λ a. number (record a { min = least; least_min = min a.least_min least; target = max a.target least })) n guest

total-released : (number : Allotment → ℕ) (counts : List ℕ) (guests : Guests)
    → total (λ g. number g.allotment) (each_released counts guests) ≡ total (λ g. number g.allotment) guests
total-released number [] guests = refl
total-released number (count ∷ counts) [] = refl
total-released number (count ∷ counts) (guest ∷ guests) = λ i. released-number number count guest i + total-released number counts guests i

number-mapped : (number : GuestRecord → ℕ) (change : GuestRecord → GuestRecord) (guest : Option GuestRecord)
    → of_running number (option_map change guest) ≡ of_running (λ g. number (change g)) guest
number-mapped number change None = refl
number-mapped number change (Some g) = refl

total-raised : (number : Allotment → ℕ) (least : ℕ) (counts : List ℕ) (guests : Guests) (k : ℕ)
    → total (λ g. number g.allotment) (guest_changed (λ g. with_min g least) (each_released counts guests) k)
    ≡ total (λ g. number g.allotment) (guest_changed (λ g. with_min g least) guests k)
total-raised number least [] guests k = refl
total-raised number least (count ∷ counts) [] k = refl
total-raised number least (count ∷ counts) (guest ∷ guests) zero =
    let first =
    number-mapped (λ g. number g.allotment) (λ g. with_min g least) (option_map (released count) guest)
    ∙ (raised-number number least count guest
    ∙ sym (number-mapped (λ g. number g.allotment) (λ g. with_min g least) guest)) in
    λ i. first i + total-released number counts guests i
total-raised number least (count ∷ counts) (guest ∷ guests) (suc k) =
    λ i. released-number number count guest i + total-raised number least counts guests k i

total-left : (number : Allotment → ℕ) (raise : Option Raise) (needed : ℕ) (pool : PoolView)
    → total (λ g. number g.allotment) (raised raise (with_surplus_back raise needed pool)).guests ≡ total (λ g. number g.allotment) (raised raise pool).guests
total-left number None needed pool = total-released number (surplus_counts None needed pool) pool.guests
total-left number (Some raise) needed pool = total-raised number raise.least (surplus_counts (Some raise) needed pool) pool.guests raise.position

-- ---- the frames that are free once room is made

free-taken : (moves : List ℕ) (pool : PoolView) → (fold taken_at pool moves).free ≡ pool.free + length moves
free-taken [] pool = omega arith
free-taken (position ∷ moves) pool = let rest = free-taken moves (taken_at pool position) in omega (arith, rest)

-- as many are free as are needed, or all that the guests hold above their minimums
room_found : (tax : Tax) (raise : Option Raise) (needed : ℕ) (pool : PoolView) → EachGuest IsGood pool
    → (needed ≤ (room_made tax raise needed pool).free)
    ⊎ (pool.free + total surplus (raised raise pool).guests + total target_of (raised raise pool).guests
    ≤ (room_made tax raise needed pool).free + total min_of (raised raise pool).guests)
room_found tax raise needed pool good =
    let left = with_surplus_back raise needed pool in
    let moves = revocations_for_room tax raise needed pool in
    let seen = (raised raise pool).guests in
    let free = free-taken moves left in
    let sum = sum-shares (needed - pool.free) seen in
    ⊎_elim
    (λ (long : needed - left.free ≤ length moves). inl (omega (arith, long, free)))
    (λ (few : targets (rows_of (raised raise left).guests) ≤ length moves + minimums (rows_of (raised raise left).guests)).
    let rows = rows-totals (raised raise left).guests in
    let targets = total-left (λ a. a.target) raise needed pool in
    let minimums = total-left (λ a. a.min) raise needed pool in
    ⊎_elim
    (λ (surplus : total surplus seen < needed - pool.free). inr (omega (arith, few, rows, targets, minimums, free, sum, surplus)))
    (λ (short : needed - pool.free ≤ total surplus seen). inl (omega (arith, short, free, sum)))
    (cases_lt (total surplus seen) (needed - pool.free)))
    (enough-moves tax (needed - left.free) (rows_of (raised raise left).guests) moves (list_of_room tax raise needed pool good))

-- ---- the guest whose minimum is raised keeps its frames

shares-up-to : (short : ℕ) (guests : Guests) (i : ℕ) → slice_index_or (surplus_shares short guests) i 0 ≤ short
shares-up-to short [] i = omega arith
shares-up-to short (guest ∷ guests) zero = omega arith
shares-up-to short (guest ∷ guests) (suc i) = let rest = shares-up-to (short - of_running surplus guest) guests i in omega (arith, rest)

-- where it lacks frames, it has none above its target
lacks-surplus : (least : ℕ) (guest : Option GuestRecord) → 1 ≤ lacking least guest → of_running surplus (option_map (λ g. with_min g least) guest) ≡ 0
lacks-surplus least None lacks = refl
lacks-surplus least (Some g) lacks = omega (arith, lacks)

no-share : (raise : Raise) (needed : ℕ) (pool : PoolView) → IsNeededFor (Some raise) needed pool → slice_index_or (surplus_counts (Some raise) needed pool) raise.position 0 ≡ 0
no-share raise needed pool is =
    let seen = (raised (Some raise) pool).guests in
    let few = shares-up-to (needed - pool.free) seen raise.position in
    let within = shares_within (needed - pool.free) seen raise.position in
    let here = ap (of_running surplus) (changed_here (λ g. with_min g raise.least) pool.guests raise.position) in
    ⊎_elim
    (λ (some : 0 < needed).
    let none = lacks-surplus raise.least (guest_in pool.guests raise.position) (omega (arith, some, is)) in
    omega (arith, within, here, none))
    (λ (none : needed ≤ 0). omega (arith, few, none))
    (cases_lt 0 needed)

released-none : (guest : Option GuestRecord) → option_map (released 0) guest ≡ guest
released-none None = refl
released-none (Some g) = refl

raised-left : (raise : Raise) (needed : ℕ) (pool : PoolView) → IsNeededFor (Some raise) needed pool
    → guest_in (with_surplus_back (Some raise) needed pool).guests raise.position ≡ guest_in pool.guests raise.position
raised-left raise needed pool is =
    let long = length-shares (needed - pool.free) (raised (Some raise) pool).guests ∙ length-raised (Some raise) pool in
    released_in (surplus_counts (Some raise) needed pool) pool.guests raise.position long
    ∙ (ap (λ n. option_map (released n) (guest_in pool.guests raise.position)) (no-share raise needed pool is)
    ∙ released-none (guest_in pool.guests raise.position))

raised-taken : (tax : Tax) (raise : Raise) (pool : PoolView) (moves : List ℕ) → IsNotAbove (Some raise) pool → TakesFromCheapest tax taken_at (raised (Some raise) pool) moves
    → guest_in (fold taken_at pool moves).guests raise.position ≡ guest_in pool.guests raise.position
raised-taken tax raise pool [] low takes = refl
raised-taken tax raise pool (position ∷ moves) low takes =
    let first = takes.0 in
    let apart = raised_other raise pool position first.guest low first.here first.above_minimum in
    raised-taken tax raise (taken_at pool position) moves (not_above_taken raise pool position apart low)
    (subst (λ (p : PoolView). TakesFromCheapest tax taken_at p moves) (raised_taken raise pool position apart) takes.1)
    ∙ (ap (λ (guests : Guests). guest_in guests raise.position) (guests-taken pool position)
    ∙ other_same (λ g. released 1 (revoked g)) pool.guests position raise.position (λ e. apart (sym e)))

pub raised_room : (tax : Tax) (raise : Raise) (needed : ℕ) (pool : PoolView) → EachGuest IsGood pool → IsNeededFor (Some raise) needed pool
    → guest_in (room_made tax (Some raise) needed pool).guests raise.position ≡ guest_in pool.guests raise.position
raised_room tax raise needed pool good is =
    go (revocations_for_room tax (Some raise) needed pool) (list_of_room tax (Some raise) needed pool good) ∙ raised-left raise needed pool is
  where
    left : PoolView
    left = with_surplus_back (Some raise) needed pool

    go : (moves : List ℕ) → IsRevocationList tax (needed - left.free) (rows_of (raised (Some raise) left).guests) moves
        → guest_in (fold taken_at left moves).guests raise.position ≡ guest_in left.guests raise.position
    go [] list = refl
    go (position ∷ moves) list =
        let few = list.no_more in
        raised-taken tax raise left (position ∷ moves) (low_left raise needed pool good is (omega (arith, few)))
        (fair-command tax (needed - left.free) (raised (Some raise) left) (position ∷ moves) list)

-- ---- what is seen of the guests with a raised minimum

seen-held : (least : ℕ) (guests : Guests) (k : ℕ) → total_held guests + lacking least (guest_in guests k)
    ≤ total surplus (guest_changed (λ g. with_min g least) guests k) + total target_of (guest_changed (λ g. with_min g least) guests k)
seen-held least [] k = omega arith
seen-held least (None ∷ guests) zero = let rest = held-within guests in omega (arith, rest)
seen-held least (Some g ∷ guests) zero = let rest = held-within guests in omega (arith, rest)
seen-held least (None ∷ guests) (suc k) = let rest = seen-held least guests k in omega (arith, rest)
seen-held least (Some g ∷ guests) (suc k) = let rest = seen-held least guests k in omega (arith, rest)

seen-min : (least : ℕ) (guests : Guests) (k : ℕ)
    → total min_of (guest_changed (λ g. with_min g least) guests k) + of_running min_of (guest_in guests k) ≤ total min_of guests + least
seen-min least [] k = omega arith
seen-min least (None ∷ guests) zero = omega arith
seen-min least (Some g ∷ guests) zero = omega arith
seen-min least (guest ∷ guests) (suc k) = let rest = seen-min least guests k in omega (arith, rest)

number-within : (number : GuestRecord → ℕ) (guests : Guests) (k : ℕ) → of_running number (guest_in guests k) ≤ total number guests
number-within number [] k = omega arith
number-within number (guest ∷ guests) zero = omega arith
number-within number (guest ∷ guests) (suc k) = let rest = number-within number guests k in omega (arith, rest)

-- ---- for callers

pub room_to_start : (tax : Tax) (pool : PoolView) (position : ℕ) → IsSoundPool pool → Conserves pool → CoversStart pool position → HasRoomToStart tax pool position
room_to_start tax pool position sound all covers =
    let needed = needed_to_start pool position in
    let promised = promised-is pool.overhead pool.guests in
    let held = held-within pool.guests in
    ⊎_elim
    (λ (enough : needed ≤ (room_made tax None needed pool).free). enough)
    (λ (found : pool.free + total surplus pool.guests + total target_of pool.guests ≤ (room_made tax None needed pool).free + total min_of pool.guests).
    omega (arith, found, promised, held, all, covers))
    (room_found tax None needed pool sound.good)

pub room_to_raise : (tax : Tax) (pool : PoolView) (position least : ℕ) → IsSoundPool pool → Conserves pool → CoversMinimum pool position least → HasRoomToRaise tax pool position least
room_to_raise tax pool position least sound all covers =
    let raise = raise_to position least in
    let needed = lacking_at pool position least in
    let seen = (raised raise pool).guests in
    let made = room_made tax raise needed pool in
    let promised = promised-is pool.overhead pool.guests in
    let held = seen-held least pool.guests position in
    let minimums = seen-min least pool.guests position in
    let within = number-within min_of pool.guests position in
    let same = ap (lacking least) (raised_room tax (record { position = position; least = least }) needed pool sound.good refl) in
    ⊎_elim
    (λ (enough : needed ≤ made.free). omega (arith, enough, same))
    (λ (found : pool.free + total surplus seen + total target_of seen ≤ made.free + total min_of seen).
    omega (arith, found, promised, held, minimums, within, all, covers, same))
    (room_found tax raise needed pool sound.good)
