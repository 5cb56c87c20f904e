-- What lines and logs mean, for worked examples.
use Rattle.std.specs.Prelude.{◌≡◌, ℕ, List, [], ◌∷◌, ◌++◌, Some, None, Ok, Err}
use Rattle.vm_import.specs.declared.access.AccessKind.{AccessKind}
use Rattle.vm_import.specs.declared.faults.LineFault.{LineFault}
use Rattle.vm_import.specs.Lines.{line_of}

-- the line is an access
abbrev pub IsLineOf : List ℕ → AccessKind → ℕ → ℕ → Type 0
IsLineOf line kind address size = line_of None line ≡ Ok (Some (record { address = address; size = size; kind = kind }))

abbrev pub IsPassedOver : List ℕ → Type 0
IsPassedOver line = line_of None line ≡ Ok None

abbrev pub IsRefused : List ℕ → LineFault → Type 0
IsRefused line fault = line_of None line ≡ Err fault

-- the line is passed over, or refused, where an earlier one named this process
abbrev pub IsPassedOverAfter : List ℕ → List ℕ → Type 0
IsPassedOverAfter process line = line_of (Some process) line ≡ Ok None

abbrev pub IsRefusedAfter : List ℕ → List ℕ → LineFault → Type 0
IsRefusedAfter process line fault = line_of (Some process) line ≡ Err fault

-- lines with an end behind each
abbrev pub ended_lines : List (List ℕ) → List ℕ
ended_lines [] = []
ended_lines (line ∷ lines) = line ++ (10 ∷ ended_lines lines)
