-- The guest at a position, once it is changed.
use Rattle.std.proofs.Common.{◌≡◌, ℕ, zero, suc, [], ◌∷◌, Some, None, slice_set, refl, ap}
use Rattle.std.specs.Option.{option_map}
use Rattle.vm_guest.specs.Record.{GuestRecord}
use Rattle.vm_pool.specs.Guests.{Guests, guest_changed, guest_in}

pub changed-same : (change : GuestRecord → GuestRecord) (guests : Guests) (k : ℕ) → option_map change (guest_in guests k) ≡ guest_in guests k → guest_changed change guests k ≡ guests
changed-same change [] k same = refl
changed-same change (guest ∷ guests) zero same = ap (λ first. first ∷ guests) same
changed-same change (guest ∷ guests) (suc k) same = ap (λ later. guest ∷ later) (changed-same change guests k same)

pub changed-here : (change : GuestRecord → GuestRecord) (guests : Guests) (k : ℕ) → guest_in (guest_changed change guests k) k ≡ option_map change (guest_in guests k)
changed-here change [] k = refl
changed-here change (None ∷ guests) zero = refl
changed-here change (Some g ∷ guests) zero = refl
changed-here change (guest ∷ guests) (suc k) = changed-here change guests k

pub changed-twice : (change more : GuestRecord → GuestRecord) (guests : Guests) (k : ℕ)
    → guest_changed more (guest_changed change guests k) k ≡ slice_set guests k (option_map more (option_map change (guest_in guests k)))
changed-twice change more [] k = refl
changed-twice change more (None ∷ guests) zero = refl
changed-twice change more (Some g ∷ guests) zero = refl
changed-twice change more (guest ∷ guests) (suc k) = ap (λ later. guest ∷ later) (changed-twice change more guests k)
