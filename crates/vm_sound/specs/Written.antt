-- What happened to each guest, and what is known of a guest by it.
use Rattle.std.specs.Prelude.{◌≡◌, ℕ, List, [], ◌∷◌, ◌++◌, Option, Some, None, slice_index_or}
use Rattle.vm_guest.specs.Good.{IsGood, HasNothingPosted}
use Rattle.vm_guest.specs.Happenings.{Happening, IsWrittenBy}
use Rattle.vm_guest.specs.Record.{GuestRecord}
use Rattle.vm_pool.specs.Guests.{Guests}

-- by position in the list of domains: the happenings of the guest there
abbrev pub History : Type 0
History = List (List Happening)

abbrev pub happenings_at : History → ℕ → List Happening
happenings_at h position = slice_index_or h position []

-- what happens to a guest, if one runs
abbrev pub happenings_of : (GuestRecord → List Happening) → Option GuestRecord → List Happening
happenings_of happenings None = []
happenings_of happenings (Some g) = happenings g

-- the history once that happened to each guest
abbrev pub with_happenings : (GuestRecord → List Happening) → Guests → History → History
with_happenings happenings [] h = h
with_happenings happenings (guest ∷ guests) [] = []
with_happenings happenings (guest ∷ guests) (earlier ∷ h) = (earlier ++ happenings_of happenings guest) ∷ with_happenings happenings guests h

-- what is true of a guest to which this happened, once its epoch is over
pub record IsKnown (happenings : List Happening) (g : GuestRecord) : Type 0 where
  pub good : IsGood g
  -- each byte of its memory is that of the last write
  pub written : IsWrittenBy happenings g

-- what is true of it once it was given its orders
pub record IsOrdered (happenings : List Happening) (g : GuestRecord) : Type 0 where
  pub good : IsGood g
  pub nothing_posted : HasNothingPosted g
  pub no_reads : g.reads ≡ []
  pub written : IsWrittenBy happenings g

-- what is true of a guest that runs, and of what happened to it
abbrev pub IfRuns : (List Happening → GuestRecord → Type 0) → Option GuestRecord → List Happening → Type 0
IfRuns P None h = Unit {0}
IfRuns P (Some g) h = P h g

-- there is a history for each position, and this is true of each guest that runs and of its history
abbrev pub AreAll : (List Happening → GuestRecord → Type 0) → Guests → History → Type 0
AreAll P [] [] = Unit {0}
AreAll P [] (h ∷ hs) = ⊥
AreAll P (guest ∷ guests) [] = ⊥
AreAll P (guest ∷ guests) (h ∷ hs) = IfRuns P guest h × AreAll P guests hs
