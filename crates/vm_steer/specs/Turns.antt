-- Moves of a list, one after the other: for private contracts alone.
use Rattle.std.specs.Prelude.{ℕ, ◌≡◌, ◌+◌, ◌-◌, ◌<◌, ⊤, List, [], ◌∷◌, IsSomeAnd, fold, length, slice_get}
use Rattle.vm_plan.specs.Grants.{granted_row}
use Rattle.vm_plan.specs.Revocation.{IsRevocable, revoked_row}
use Rattle.vm_plan.specs.Row.{Row, change_at}
use Rattle.vm_steer.specs.declared.outcome.Outcome.{Outcome}
use Rattle.vm_steer.specs.Deciding.{entries_of, target_at}

-- there is a row above its minimum for each of these, one after the other
abbrev pub CanLower : List Row → List ℕ → Type 0
CanLower rows [] = ⊤
CanLower rows (position ∷ moves) = IsRevocable rows position × CanLower (change_at revoked_row rows position) moves

-- the row at a position wants a unit, and its cap lets it have one
abbrev pub IsGrantableRow : List Row → ℕ → Type 0
IsGrantableRow rows position = IsSomeAnd (slice_get rows position) (λ row. (0 < row.demand) × (row.target < row.cap))

-- there is such a row for each of these, one after the other
abbrev pub CanRise : List Row → List ℕ → Type 0
CanRise rows [] = ⊤
CanRise rows (position ∷ moves) = IsGrantableRow rows position × CanRise (change_at granted_row rows position) moves

-- the rows after these grants
abbrev pub rows_raised : List Row → List ℕ → List Row
rows_raised rows moves = fold (change_at granted_row) rows moves

-- each target falls by one for each of its entries
pub record AreLowered (moves : List ℕ) (before after : List Row) : Type 0 where
  pub same_length : length after ≡ length before
  pub targets : (position : ℕ) → position < length before → target_at before position ≡ target_at after position + entries_of position moves

-- each target rises so
pub record AreRaised (moves : List ℕ) (before after : List Row) : Type 0 where
  pub same_length : length after ≡ length before
  pub targets : (position : ℕ) → position < length before → target_at after position ≡ target_at before position + entries_of position moves

-- what is decided for the row at a position, by its targets
abbrev pub differences_at : (rows fallen risen after : List Row) → ℕ → Outcome
differences_at rows fallen risen after position = record {
  revoked = target_at rows position - target_at fallen position;
  granted = target_at risen position - target_at fallen position;
  rebalanced = target_at risen position - target_at after position;
  target = target_at after position;
}
