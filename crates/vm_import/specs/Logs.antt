-- What a log means: its accesses up to its first fault, and that fault with the number of its line.
use Rattle.std.specs.Prelude.{ℕ, ◌+◌, ◌==◌, Bool, if◌then◌else◌, List, [], ◌∷◌, Option, Some, None, Result, Ok, Err}
use Rattle.std.specs.List.{onto_first}
use Rattle.vm_import.specs.declared.access.Access.{Access}
use Rattle.vm_import.specs.declared.faults.LineFault.{LineFault}
use Rattle.vm_import.specs.Lines.{line_of, process_of}

abbrev pub is_line_end : ℕ → Bool
is_line_end byte = byte == 10

-- The lines of bytes: LF ends each, which the last may lack.
abbrev pub lines_of : List ℕ → List (List ℕ)
lines_of [] = []
lines_of (byte ∷ bytes) = if is_line_end byte then [] ∷ lines_of bytes else onto_first byte (lines_of bytes)

-- a fault, and the number of its line
pub record FaultAt : Type 0 where
  pub number : ℕ
  pub fault : LineFault

pub record Log : Type 0 where
  pub accesses : List Access
  pub fault : Option FaultAt

-- nothing is left
abbrev pub ended : Log
ended = record { accesses = []; fault = None }

-- the next thing is a fault
abbrev pub faulty : ℕ → LineFault → Log
faulty number fault = record { accesses = []; fault = Some (record { number = number; fault = fault }) }

-- the next thing is an access
abbrev pub onto : Access → Log → Log
onto access rest = record { accesses = access ∷ rest.accesses; fault = rest.fault }

-- the line of this number, by what it means, in front of the rest
abbrev pub before : ℕ → Result (Option Access) LineFault → Log → Log
before number (Ok None) rest = rest
before number (Ok (Some access)) rest = onto access rest
before number (Err fault) rest = faulty number fault

-- the process of a log is the first one that a line names
abbrev pub first_process : Option (List ℕ) → Option (List ℕ) → Option (List ℕ)
first_process None found = found
first_process (Some first) found = Some first

-- the log of these lines, behind so many others, in which this process was named
unfoldable pub log_of_lines : ℕ → Option (List ℕ) → List (List ℕ) → Log
log_of_lines count process [] = ended
log_of_lines count process (line ∷ lines) =
    before (count + 1) (line_of process line)
    (log_of_lines (count + 1) (first_process process (process_of line)) lines)

-- the log of bytes, behind so many lines, in which this process was named
abbrev pub log_from : ℕ → Option (List ℕ) → List ℕ → Log
log_from count process bytes = log_of_lines count process (lines_of bytes)

-- the log of bytes
abbrev pub log_of : List ℕ → Log
log_of bytes = log_from 0 None bytes
