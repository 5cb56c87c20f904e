-- Guests, and what happened to each, by position.
use Rattle.std.proofs.Common.{◌≡◌, ℕ, zero, suc, ◌≤◌, List, [], ◌∷◌, length, Some, None, slice_get, slice_set, refl, arith, subst}
use Rattle.vm_board.specs.Values.{values}
use Rattle.vm_guest.specs.Happenings.{Happening}
use Rattle.vm_guest.specs.Record.{GuestRecord}
use Rattle.vm_pool.specs.Guests.{Guests}
use Rattle.vm_sound.specs.Written.{History, happenings_at, AreAll}

-- where none runs there is none at a position
pub none_there : (guests : Guests) (position : ℕ) (g : GuestRecord) → values guests ≡ [] → slice_get guests position ≡ Some (Some g) → ⊥
none_there [] position g none at = cc
none_there (None ∷ guests) zero g none at = cc
none_there (None ∷ guests) (suc position) g none at = none_there guests position g none at
none_there (Some x ∷ guests) position g none at = cc

-- where there is no element at a position, the list ends before it
pub past : {X : Type 0} (xs : List X) (position : ℕ) → slice_get xs position ≡ None → length xs ≤ position
past [] position none = omega arith
past (x ∷ xs) zero none = cc
past (x ∷ xs) (suc position) none = let rest = past xs position none in omega (arith, rest)

module _ (P : List Happening → GuestRecord → Type 0) where
  pub length-all : (guests : Guests) (h : History) → AreAll P guests h → length h ≡ length guests
  length-all [] [] all = refl
  length-all [] (happenings ∷ h) all = absurd all
  length-all (guest ∷ guests) [] all = absurd all
  length-all (guest ∷ guests) (happenings ∷ h) all = let rest = length-all guests h all.1 in omega (arith, rest)

  pub at_position : (guests : Guests) (h : History) → AreAll P guests h → (position : ℕ) (g : GuestRecord) → slice_get guests position ≡ Some (Some g)
      → P (happenings_at h position) g
  at_position [] [] all position g at = cc
  at_position [] (happenings ∷ h) all position g at = absurd all
  at_position (guest ∷ guests) [] all position g at = absurd all
  at_position (None ∷ guests) (happenings ∷ h) all zero g at = cc
  at_position (Some x ∷ guests) (happenings ∷ h) all zero g at = let same : x ≡ g = cc in subst (P happenings) same all.0
  at_position (guest ∷ guests) (happenings ∷ h) all (suc position) g at = at_position guests h all.1 position g at

  -- another guest runs at a position, with another history
  pub one_set : (guests : Guests) (h : History) (position : ℕ) (g : GuestRecord) (now : List Happening) → AreAll P guests h → P now g
      → AreAll P (slice_set guests position (Some g)) (slice_set h position now)
  one_set [] [] position g now all one = tt
  one_set [] (happenings ∷ h) position g now all one = absurd all
  one_set (guest ∷ guests) [] position g now all one = absurd all
  one_set (guest ∷ guests) (happenings ∷ h) zero g now all one = (one, all.1)
  one_set (guest ∷ guests) (happenings ∷ h) (suc position) g now all one = (all.0, one_set guests h position g now all.1 one)
