-- Rows that differ in nothing but what is held, of which no price speaks: they have the same revocations.
use Rattle.std.proofs.Common.{◌≡◌, ◌∙◌, ℕ, zero, suc, Bool, true, false, List, [], ◌∷◌, Option, Some, None, map, slice_get, slice_set, sym, refl, ap, if◌then◌else◌}
use Rattle.std.specs.Option.{option_map, option_map_or}
use Rattle.vm_guest.specs.Boundary.{released, with_min, without_one}
use Rattle.vm_guest.specs.Memory.{has_spare}
use Rattle.vm_guest.specs.Record.{GuestRecord}
use Rattle.vm_guest.specs.Touch.{evicted}
use Rattle.vm_plan.specs.Revocation.{revocation_list, revoked_row}
use Rattle.vm_plan.specs.Row.{Row, change_at, revocable_ratio, revocable_ratios}
use Rattle.vm_pool.specs.Guests.{Guests, each_released, guest_changed}
use Rattle.vm_pool.specs.Pool.{PoolView}
use Rattle.vm_tax.specs.Offers.{least_position}
use Rattle.vm_tax.specs.Ratio.{Tax}
use Rattle.vm_reclaim.specs.declared.room.Raise.{Raise}
use Rattle.vm_reclaim.specs.Making.{raised_row}
use Rattle.vm_reclaim.specs.Room.{raised, surplus_counts, with_surplus_back}
use Rattle.vm_reclaim.specs.Rows.{row_at, row_of, rows_of}

-- a row without what is held
abbrev pub bare : Row → Row
bare row = record row { held = 0 }

-- the same rows, but for what is held
unfoldable pub SameButHeld : List Row → List Row → Type 0
SameButHeld rows others = map bare rows ≡ map bare others

ratios-bare : (tax : Tax) (rows : List Row) → revocable_ratios tax (map bare rows) ≡ revocable_ratios tax rows
ratios-bare tax [] = refl
ratios-bare tax (row ∷ rows) = ap (λ later. revocable_ratio tax row ∷ later) (ratios-bare tax rows)

pub ratios-same : (tax : Tax) (rows others : List Row) → SameButHeld rows others → revocable_ratios tax rows ≡ revocable_ratios tax others
unfolding SameButHeld
ratios-same tax rows others same = sym (ratios-bare tax rows) ∙ (ap (revocable_ratios tax) same ∙ ratios-bare tax others)

-- ---- revocations

pub change-suc : (change : Row → Row) (row : Row) (rows : List Row) (k : ℕ) → change_at change (row ∷ rows) (suc k) ≡ row ∷ change_at change rows k
change-suc change row rows k = go (slice_get rows k)
  where
    go : (o : Option Row) → option_map_or (λ r. slice_set (row ∷ rows) (suc k) (change r)) o (row ∷ rows) ≡ row ∷ option_map_or (λ r. slice_set rows k (change r)) o rows
    go None = refl
    go (Some r) = refl

revoked-bare : (rows : List Row) (k : ℕ) → map bare (change_at revoked_row rows k) ≡ change_at revoked_row (map bare rows) k
revoked-bare [] k = refl
revoked-bare (row ∷ rows) zero = refl
revoked-bare (row ∷ rows) (suc k) =
    ap (map bare) (change-suc revoked_row row rows k)
    ∙ (ap (λ later. bare row ∷ later) (revoked-bare rows k)
    ∙ sym (change-suc revoked_row (bare row) (map bare rows) k))

revoked-same : (rows others : List Row) (k : ℕ) → SameButHeld rows others → SameButHeld (change_at revoked_row rows k) (change_at revoked_row others k)
unfolding SameButHeld
revoked-same rows others k same =
    revoked-bare rows k ∙ (ap (λ (rows : List Row). change_at revoked_row rows k) same ∙ sym (revoked-bare others k))

-- a first move, and the moves after it
first-same : (rest others : ℕ → List ℕ) (least : Option ℕ) → ((position : ℕ) → rest position ≡ others position)
    → option_map_or (λ position. position ∷ rest position) least [] ≡ option_map_or (λ position. position ∷ others position) least []
first-same rest others None same = refl
first-same rest others (Some position) same = ap (λ later. position ∷ later) (same position)

-- the same guests lose pages
pub list-same : (tax : Tax) (wanted : ℕ) (rows others : List Row) → SameButHeld rows others → revocation_list tax wanted rows ≡ revocation_list tax wanted others
unfolding revocation_list
list-same tax zero rows others same = refl
list-same tax (suc wanted) rows others same =
    ap (λ offers. option_map_or (λ position. position ∷ revocation_list tax wanted (change_at revoked_row rows position)) (least_position offers) []) (ratios-same tax rows others same)
    ∙ first-same (λ position. revocation_list tax wanted (change_at revoked_row rows position)) (λ position. revocation_list tax wanted (change_at revoked_row others position))
    (least_position (revocable_ratios tax others))
    (λ position. list-same tax wanted (change_at revoked_row rows position) (change_at revoked_row others position) (revoked-same rows others position same))

-- ---- frames that guests give up

pub frame-bare : (g : GuestRecord) (spare : Bool) → bare (row_of (if spare then without_one g else without_one (evicted g))) ≡ bare (row_of g)
frame-bare g true = refl
frame-bare g false = refl

pub released-bare : (count : ℕ) (g : GuestRecord) → bare (row_of (released count g)) ≡ bare (row_of g)
released-bare zero g = refl
released-bare (suc count) g = frame-bare (released count g) (has_spare (released count g).memory) ∙ released-bare count g

guest-bare : (count : ℕ) (guest : Option GuestRecord) → bare (row_at (option_map (released count) guest)) ≡ bare (row_at guest)
guest-bare count None = refl
guest-bare count (Some g) = released-bare count g

raised-bare : (least count : ℕ) (guest : Option GuestRecord)
    → bare (row_at (option_map (λ g. with_min g least) (option_map (released count) guest))) ≡ bare (row_at (option_map (λ g. with_min g least) guest))
raised-bare least count None = refl
raised-bare least count (Some g) = ap (raised_row least) (released-bare count g)

released-rows : (counts : List ℕ) (guests : Guests) → map bare (rows_of (each_released counts guests)) ≡ map bare (rows_of guests)
released-rows [] guests = refl
released-rows (count ∷ counts) [] = refl
released-rows (count ∷ counts) (guest ∷ guests) = λ i. guest-bare count guest i ∷ released-rows counts guests i

raised-rows : (least : ℕ) (counts : List ℕ) (guests : Guests) (k : ℕ)
    → map bare (rows_of (guest_changed (λ g. with_min g least) (each_released counts guests) k)) ≡ map bare (rows_of (guest_changed (λ g. with_min g least) guests k))
raised-rows least [] guests k = refl
raised-rows least (count ∷ counts) [] k = refl
raised-rows least (count ∷ counts) (guest ∷ guests) zero = λ i. raised-bare least count guest i ∷ released-rows counts guests i
raised-rows least (count ∷ counts) (guest ∷ guests) (suc k) = λ i. guest-bare count guest i ∷ raised-rows least counts guests k i

-- guests are seen the same before they give up frames and after
pub rows-left : (raise : Option Raise) (needed : ℕ) (pool : PoolView)
    → SameButHeld (rows_of (raised raise pool).guests) (rows_of (raised raise (with_surplus_back raise needed pool)).guests)
unfolding SameButHeld
rows-left None needed pool = sym (released-rows (surplus_counts None needed pool) pool.guests)
rows-left (Some raise) needed pool = sym (raised-rows raise.least (surplus_counts (Some raise) needed pool) pool.guests raise.position)
