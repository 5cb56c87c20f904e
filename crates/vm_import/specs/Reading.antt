-- How far a log has been read, and what a call gives of what is left.
use Rattle.std.specs.Prelude.{◌≡◌, ℕ, ◌+◌, ⊤, List, [], length, Option, Some, None}
use Rattle.std.specs.Io.KnownBytes.{prepend_known}
use Rattle.std.specs.Option.{option_map}
use Rattle.vm_import.specs.declared.access.Access.{Access}
use Rattle.vm_import.specs.declared.faults.LineFault.{LineFault}
use Rattle.vm_import.specs.Logs.{Log, ended, faulty, onto, log_from}

-- How far a log has been read: the bytes that were taken from its source and not yet used, how many bytes were taken in all,
-- how many lines were used, and the process that these named.
pub record Place : Type 0 where
  pub kept : List ℕ
  pub taken : ℕ
  pub lines : ℕ
  pub process : Option (List ℕ)

-- nothing was read
abbrev pub beginning : Place
beginning = record { kept = []; taken = 0; lines = 0; process = None }

-- what is left of the log, where it is known what its source has yet to give
unfoldable pub left : Place → Option (List ℕ) → Option Log
left place remaining = option_map (log_from place.lines place.process) (prepend_known place.kept remaining)

-- how many bytes the log has in all, where that is known
abbrev pub length_in_all : Place → Option (List ℕ) → Option ℕ
length_in_all place remaining = option_map (λ bytes. place.taken + length bytes) remaining

-- what is known stays the same
abbrev pub Stays : {A : Type 0} → Option A → Option A → Type 0
Stays None after = ⊤
Stays (Some was) None = ⊥
Stays (Some was) (Some is) = is ≡ was

-- What was left begins with the access, behind which is what is left now; or nothing was left, nor is.
abbrev pub Gives : Option Log → Option Log → Option Access → Type 0
Gives None after found = ⊤
Gives (Some log) None found = ⊥
Gives (Some log) (Some rest) None = (log ≡ ended) × (rest ≡ ended)
Gives (Some log) (Some rest) (Some access) = log ≡ onto access rest

-- what was left begins with the fault
abbrev pub BeginsWithFault : Option Log → ℕ → LineFault → Type 0
BeginsWithFault None number fault = ⊤
BeginsWithFault (Some log) number fault = log ≡ faulty number fault
