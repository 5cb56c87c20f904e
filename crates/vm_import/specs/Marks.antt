-- What a working set remembers of pages beside the touches that it keeps.
use Rattle.std.specs.Prelude.{◌≡◌, ℕ, ◌≤◌, Bool, true, false, not, List, length, All, slice_index_or, if◌then◌else◌}
use Rattle.vm_import.specs.declared.marks.Mark.{Mark}
use Rattle.vm_import.specs.declared.marks.Mark.TheVariants.{Untouched, Read, Written}
use Rattle.vm_import.specs.declared.touch.RankedTouch.{RankedTouch}
use Rattle.vm_import.specs.SetSteps.{is_covered}
use Rattle.vm_import.specs.WorkingSets.{IsWithin}

-- whether a page that was touched so covers a touch
abbrev pub mark_covers : Mark → Bool → Bool
mark_covers Untouched writes = false
mark_covers Read writes = not writes
mark_covers Written writes = true

-- the mark of a page that was touched by reading or by writing
abbrev pub mark_by : Bool → Mark
mark_by writes = if writes then Written else Read

-- the mark of the page of this rank
abbrev pub mark_of : List RankedTouch → ℕ → Mark
mark_of kept rank = if is_covered kept rank true then Written else if is_covered kept rank false then Read else Untouched

-- the mark at a rank; past the end no page is touched
abbrev pub mark_at : List Mark → ℕ → Mark
mark_at marks rank = slice_index_or marks rank Untouched

-- the marks say how the touches that were kept cover each page
pub record AreMarks (pages : List ℕ) (marks : List Mark) (kept : List RankedTouch) : Type 0 where
  pub room : length pages ≤ length marks
  pub within : All (IsWithin (length pages)) kept
  pub marked : (rank : ℕ) → mark_at marks rank ≡ mark_of kept rank
