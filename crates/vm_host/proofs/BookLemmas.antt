-- What the books hold of a guest that runs.
use Rattle.std.proofs.Common.{◌≡◌, ℕ, zero, suc, ◌+◌, ◌^◌, ◌<◌, ◌≤◌, length, [], ◌∷◌, Option, Some, None, Ok, refl, ap, arith}
use Rattle.std.proofs.lemmas.Option.{none-some}
use Rattle.vm_admission.specs.Accounts.{IsMinimumBooked, IsReserveBooked}
use Rattle.vm_guest.specs.Record.{GuestRecord, reserve}
use Rattle.vm_guest.specs.View.{view_of}
use Rattle.vm_guest.specs.declared.view.GuestView.{GuestView}
use Rattle.vm_pool.specs.Guests.{Guests, guest_in, of_running, total}
use Rattle.vm_host.specs.Books.{books_of}
use Rattle.vm_sound.specs.Books.{promised}
use Rattle.vm_host.specs.Decisions.{viewed}
use Rattle.vm_host.specs.Sound.{IsSoundWorld}
use Rattle.vm_host.specs.World.{World}

-- a sum has room for each of its numbers
pub total_at : (number : GuestRecord → ℕ) (guests : Guests) (k : ℕ) (g : GuestRecord) → guest_in guests k ≡ Some g → number g ≤ total number guests
total_at number [] k g here = absurd (none-some g here)
total_at number (None ∷ guests) zero g here = absurd (none-some g here)
total_at number (Some h ∷ guests) zero g here =
    let same = ap (of_running number) here in
    omega (arith, same)
total_at number (guest ∷ guests) (suc k) g here = let rest = total_at number guests k g here in omega (arith, rest)

viewed_some : (o : Option GuestRecord) (v : GuestView) → Ok v ≡ viewed o → (g : GuestRecord) × (o ≡ Some g) × (v ≡ view_of g)
viewed_some None v is = absurd (cc)
viewed_some (Some g) v is = let same : v ≡ view_of g = cc in (g, refl, same)

pub booked_view : (w : World) (position : ℕ) (v : GuestView) → Ok v ≡ viewed (guest_in w.pool.guests position) → IsMinimumBooked (books_of w) v.min
booked_view w position v is =
    let guest = viewed_some (guest_in w.pool.guests position) v is in
    let one = total_at (λ _. 1) w.pool.guests position guest.0 guest.1 in
    let memory = total_at (promised w.machine) w.pool.guests position guest.0 guest.1 in
    let min = ap (λ (v : GuestView). v.min) guest.2 in
    (omega (arith, one), omega (arith, memory, min))

pub booked_reserve : (w : World) (position : ℕ) (v : GuestView) → Ok v ≡ viewed (guest_in w.pool.guests position)
    → IsReserveBooked (books_of w) (of_running reserve (guest_in w.pool.guests position))
booked_reserve w position v is =
    let guest = viewed_some (guest_in w.pool.guests position) v is in
    let one = total_at (λ _. 1) w.pool.guests position guest.0 guest.1 in
    let reserved = total_at reserve w.pool.guests position guest.0 guest.1 in
    let here = ap (of_running reserve) guest.1 in
    (omega (arith, one), omega (arith, reserved, here))

-- there are few guests
runs-within : (guests : Guests) → total (λ _. 1) guests ≤ length guests
runs-within [] = omega arith
runs-within (None ∷ guests) = let rest = runs-within guests in omega (arith, rest)
runs-within (Some g ∷ guests) = let rest = runs-within guests in omega (arith, rest)

pub few-booked : (w : World) → IsSoundWorld w → (books_of w).guests + 1 < 2 ^ 32
few-booked w sound =
    let runs = runs-within w.pool.guests in
    let paired = sound.pool.paired in
    let few = sound.pool.few in
    omega (arith, runs, paired, few)
