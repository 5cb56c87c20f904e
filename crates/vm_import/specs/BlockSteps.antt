-- How a reader goes from line to line.
use Rattle.std.specs.Prelude.{◌≡◌, ℕ, ◌+◌, ◌<◌, ◌≤◌, ◌^◌, List, length, take, Option, None, Some}
use Rattle.std.specs.List.{before_first}
use Rattle.vm_import.specs.declared.access.Access.{Access}
use Rattle.vm_import.specs.declared.step.Step.{Step}
use Rattle.vm_import.specs.declared.step.Step.TheVariants.{Ended, Passed, Found}
use Rattle.vm_import.specs.Accesses.{IsAccess}
use Rattle.vm_import.specs.Logs.{Log, is_line_end}
use Rattle.vm_import.specs.Reading.{Place, left, Gives, Stays}

-- each line that was used has at least a byte, so that their number is small
pub record IsCounted (kept : List ℕ) (taken lines : ℕ) : Type 0 where
  pub counted : lines + length kept ≤ taken
  pub small : taken < 2 ^ 64

-- the step that a line is, of which this was found
abbrev pub step_of : Option Access → Step
step_of None = Passed
step_of (Some access) = Found access

-- what is left goes on as the step says
abbrev pub GoesOn : Option Log → Option Log → Step → Type 0
GoesOn log rest Ended = Gives log rest None
GoesOn log rest Passed = Stays log rest
GoesOn log rest (Found access) = Gives log rest (Some access)

-- the access was read without the source, whatever that has yet to give
pub record IsRead (old new : Place) (access : Access) : Type 0 where
  pub gives : (remaining : Option (List ℕ)) → Gives (left old remaining) (left new remaining) (Some access)
  pub taken : new.taken ≡ old.taken
  pub valid : IsAccess access

-- so much of the first line as decides what it means
abbrev pub first_line : List ℕ → List ℕ
first_line bytes = before_first is_line_end (take 32 bytes)
