-- Why a log is read no further.
use Rattle.std.specs.Prelude.{◌≡◌, ◌⊎◌, ℕ, ◌≤◌, ◌^◌, ⊤, Bool, true, [], length, drop, List, Option, Some, None, IfSome, Err}
use Rattle.vm_import.specs.declared.access.Access.{Access}
use Rattle.vm_import.specs.Logs.{Log}
use Rattle.vm_import.specs.Progress.{Takes}
use Rattle.vm_import.specs.Settings.{Settings}
use Rattle.vm_import.specs.declared.outcome.ImportError.{ImportError}
use Rattle.vm_import.specs.declared.outcome.ImportError.TheVariants.{Line, Untouched, Read, Write, Memory}

-- the source failed, or gives 2^64 bytes or more in all
abbrev pub CantBeRead : (length : Option ℕ) → (read_failed : Bool) → Type 0
CantBeRead length read_failed = (read_failed ≡ true) ⊎ IfSome length (λ bytes. 2 ^ 64 ≤ bytes)

-- each error of the reading of accesses behind others has its cause
abbrev pub FailsBehind : Settings → List Access → Option Log → Option ℕ → Bool → ImportError → Type 0
FailsBehind settings before log length read_failed (Line number fault) =
    Takes settings before log (Err (record { number = number; fault = fault }))
FailsBehind settings before log length read_failed (Untouched imported) = ⊥
FailsBehind settings before log length read_failed Read = CantBeRead length read_failed
FailsBehind settings before log length read_failed Write = ⊥
FailsBehind settings before log length read_failed Memory = ⊤

-- the log without so many accesses
abbrev pub without : ℕ → Log → Log
without count log = record log { accesses = drop count log.accesses }

-- so many accesses were skipped, or all
abbrev pub Skips : ℕ → Option Log → Option Log → Type 0
Skips count None rest = ⊤
Skips count (Some log) None = ⊥
Skips count (Some log) (Some rest) = rest ≡ without count log

-- each error of the skipping has its cause
abbrev pub FailsToSkip : ℕ → Option Log → Option ℕ → Bool → ImportError → Type 0
FailsToSkip count log length read_failed (Line number fault) =
    IfSome log (λ log. without count log ≡ record { accesses = []; fault = Some (record { number = number; fault = fault }) })
FailsToSkip count log length read_failed (Untouched imported) = ⊥
FailsToSkip count log length read_failed Read = CantBeRead length read_failed
FailsToSkip count log length read_failed Write = ⊥
FailsToSkip count log length read_failed Memory = ⊥
