-- A sum over the guests, where one of them changes.
use Rattle.std.proofs.Common.{◌≡◌, ℕ, zero, suc, ◌+◌, ◌<◌, ◌≤◌, [], ◌∷◌, Option, Some, None, length, ap, arith}
use Rattle.std.specs.Prelude.{slice_set}
use Rattle.std.proofs.lemmas.Option.{none-some}
use Rattle.vm_guest.specs.Record.{GuestRecord}
use Rattle.vm_pool.specs.Guests.{Guests, guest_in, of_running, total}

-- an entry is written
pub total-set : (number : GuestRecord → ℕ) (guests : Guests) (k : ℕ) (new : Option GuestRecord) → k < length guests
    → total number (slice_set guests k new) + of_running number (guest_in guests k) ≡ total number guests + of_running number new
total-set number [] k new there = absurd (omega (arith, there))
total-set number (None ∷ guests) zero new there = omega arith
total-set number (Some g ∷ guests) zero new there = omega arith
total-set number (guest ∷ guests) (suc k) new there = let rest = total-set number guests k new (omega (arith, there)) in omega (arith, rest)

-- the sum has room for each of its numbers
pub total-at : (number : GuestRecord → ℕ) (guests : Guests) (k : ℕ) (g : GuestRecord) → guest_in guests k ≡ Some g → number g ≤ total number guests
total-at number [] k g here = absurd (none-some g here)
total-at number (None ∷ guests) zero g here = absurd (none-some g here)
total-at number (Some h ∷ guests) zero g here = let same = ap (of_running number) here in omega (arith, same)
total-at number (guest ∷ guests) (suc k) g here = let rest = total-at number guests k g here in omega (arith, rest)

-- a guest starts where none runs
pub total-more : (number : GuestRecord → ℕ) (guests : Guests) (k : ℕ) (new : GuestRecord) → k < length guests → guest_in guests k ≡ None
    → total number (slice_set guests k (Some new)) ≡ total number guests + number new
total-more number guests k new there none =
    let sum = total-set number guests k (Some new) there in
    let was = ap (of_running number) none in
    omega (arith, sum, was)

-- a guest stops
pub total-less : (number : GuestRecord → ℕ) (guests : Guests) (k : ℕ) (old : GuestRecord) → k < length guests → guest_in guests k ≡ Some old
    → total number (slice_set guests k None) + number old ≡ total number guests
total-less number guests k old there here =
    let sum = total-set number guests k None there in
    let was = ap (of_running number) here in
    omega (arith, sum, was)

-- a guest that runs becomes another
pub total-other : (number : GuestRecord → ℕ) (guests : Guests) (k : ℕ) (old new : GuestRecord) → k < length guests → guest_in guests k ≡ Some old
    → total number (slice_set guests k (Some new)) + number old ≡ total number guests + number new
total-other number guests k old new there here =
    let sum = total-set number guests k (Some new) there in
    let was = ap (of_running number) here in
    omega (arith, sum, was)
