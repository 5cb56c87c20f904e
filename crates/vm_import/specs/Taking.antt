-- How far a log is taken.
use Rattle.std.specs.Prelude.{ℕ, ◌*◌, ◌/◌, List, [], ◌∷◌, ◌++◌, length, take, drop, Option, Some, None, Result, Ok, Err}
use Rattle.vm_import.specs.declared.access.Access.{Access}
use Rattle.vm_import.specs.Logs.{FaultAt, Log}
use Rattle.vm_import.specs.Guests.{guest_of}
use Rattle.vm_import.specs.Limits.{passed_by}
use Rattle.vm_import.specs.Settings.{Settings}
use Rattle.vm_import.specs.declared.limits.Limit.{Limit}

-- what is taken of a log: accesses, and which limit the next interval passes, if that ended it
pub record Taken : Type 0 where
  pub accesses : List Access
  pub limit : Option Limit

-- the accesses of whole intervals
abbrev pub whole_intervals : ℕ → List Access → List Access
whole_intervals lines accesses = take (length accesses / lines * lines) accesses

-- at the end of a log all accesses are taken, or its fault is met
abbrev pub at_end : Option FaultAt → List Access → Result Taken FaultAt
at_end None accesses = Ok (record { accesses = accesses; limit = None })
at_end (Some fault) accesses = Err fault

-- where an access passes a limit, whole intervals are taken of those before it; else what comes of the others
abbrev pub unless_passed : Option Limit → Settings → List Access → Result Taken FaultAt → Result Taken FaultAt
unless_passed (Some limit) settings before others =
    Ok (record { accesses = whole_intervals settings.interval before; limit = Some limit })
unless_passed None settings before others = others

-- What is taken of accesses that are left, behind others. Reading ends at the first access with which a limit is passed.
abbrev pub taken_behind : Settings → Option FaultAt → List Access → List Access → Result Taken FaultAt
taken_behind settings fault before [] = at_end fault before
taken_behind settings fault before (access ∷ accesses) =
    unless_passed (passed_by settings (guest_of settings (before ++ access ∷ []))) settings before
    (taken_behind settings fault (before ++ access ∷ []) accesses)

-- what is taken of a log, or the fault that is met before it ends
abbrev pub taken_of : Settings → Log → Result Taken FaultAt
taken_of settings log = taken_behind settings log.fault [] (drop settings.skip log.accesses)
