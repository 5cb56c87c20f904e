-- What was made of accesses, while a log is read.
use Rattle.std.specs.Prelude.{◌≡◌, ℕ, ◌+◌, ◌*◌, ◌≤◌, ◌^◌, Bool, true, false, ⊤, List, [], ◌∷◌, ◌++◌, length, drop, Option, Some, None, IfSome, Result, Ok}
use Rattle.vm_import.specs.declared.access.Access.{Access}
use Rattle.vm_import.specs.Logs.{FaultAt, Log}
use Rattle.vm_import.specs.declared.touch.RankedTouch.{RankedTouch}
use Rattle.vm_import.specs.WorkingSets.{WorkingSetView, working_set}
use Rattle.vm_import.specs.Drafts.{DraftView}
use Rattle.vm_import.specs.Guests.{Guest, guest_of}
use Rattle.vm_import.specs.Intervals.{intervals_of, kept_in}
use Rattle.vm_import.specs.Limits.{limit_passed}
use Rattle.vm_import.specs.Settings.{Settings}
use Rattle.vm_import.specs.Steps.{idle_behind, idle_steps, steps_of}
use Rattle.vm_import.specs.Taking.{Taken, taken_behind}
use Rattle.vm_import.specs.Texts.{head_of, listed, tail_of}
use Rattle.vm_import.specs.Touched.{touches_in}
use Rattle.vm_import.specs.declared.interval.Interval.{Interval}
use Rattle.vm_import.specs.declared.interval.IntervalEnd.{IntervalEnd}
use Rattle.vm_import.specs.declared.interval.IntervalEnd.TheVariants.{Full, Last, Absent, Passes}
use Rattle.vm_import.specs.declared.limits.Limit.{Limit}

-- ---- drafts

-- the text of a guest up to its last step
unfoldable pub opening_of : Settings → Guest → List ℕ
opening_of settings guest = head_of settings ++ listed guest.trace

-- the draft is of the guest's text up to its last step
pub record IsDraft (settings : Settings) (guest : Guest) (draft : DraftView) : Type 0 where
  pub within : draft.written ≤ length (opening_of settings guest)
  pub text : draft.text ≡ drop draft.written (opening_of settings guest)
  pub steps : draft.steps ≡ length guest.trace

-- there is room for more
pub record IsShort (draft : DraftView) : Type 0 where
  pub steps : draft.steps ≤ 2 ^ 32
  pub written : draft.written ≤ 2 ^ 32

-- ---- an interval that is under way

-- the number of idle steps before an interval that goes behind others
abbrev pub idle_next : ℕ → List (List RankedTouch) → ℕ
idle_next quantum [] = 0
idle_next quantum (kept ∷ []) = idle_behind quantum (length kept)
idle_next quantum (kept ∷ next ∷ others) = idle_next quantum (next ∷ others)

-- what each interval of accesses keeps
unfoldable pub kept_of : Settings → List Access → List (List RankedTouch)
kept_of settings accesses = kept_in settings.has_code (intervals_of settings.interval accesses)

-- the guest of whole intervals, and of one more that has this working set
unfoldable pub guest_with : Settings → List Access → ℕ → WorkingSetView → Guest
guest_with settings before number set = record {
  size = length set.pages;
  trace = (guest_of settings before).trace
      ++ (idle_steps (idle_next settings.quantum (kept_of settings before)) ++ steps_of number set.kept);
}

-- so far the interval of this number has these accesses, behind those of whole intervals
pub record IsUnderWay (settings : Settings) (before : List Access) (number : ℕ) (accesses : List Access)
    (set : WorkingSetView) (draft : DraftView) : Type 0 where
  pub whole : length before + settings.interval ≡ number * settings.interval
  pub touched : set ≡ working_set (touches_in settings.has_code before) (touches_in settings.has_code accesses)
  pub drafted : IsDraft settings (guest_with settings before number set) draft

-- ---- a log that is read

-- what is left of the log goes on behind these accesses
abbrev pub Reads : Option Log → List Access → Option Log → Type 0
Reads None accesses now = ⊤
Reads (Some log) accesses None = ⊥
Reads (Some log) accesses (Some rest) = log ≡ record { accesses = accesses ++ rest.accesses; fault = rest.fault }

-- what is taken of the log, where it is known, behind these accesses
abbrev pub Takes : Settings → List Access → Option Log → Result Taken FaultAt → Type 0
Takes settings before log taken = IfSome log (λ log. taken_behind settings log.fault before log.accesses ≡ taken)

-- what is taken of the log, behind these accesses, is what is taken of the rest, behind those
abbrev pub SameTaken : Settings → List Access → Option Log → List Access → Option Log → Type 0
SameTaken settings before None after rest = ⊤
SameTaken settings before (Some log) after None = ⊥
SameTaken settings before (Some log) after (Some rest) =
    taken_behind settings log.fault before log.accesses ≡ taken_behind settings rest.fault after rest.accesses

-- the limit that a draft passes, whose guest has so many pages
abbrev pub limit_of : Settings → (pages : ℕ) → DraftView → Option Limit
limit_of settings pages draft =
    limit_passed settings draft.steps pages (draft.written + length draft.text + length (tail_of settings pages draft.steps))

-- More accesses of the interval were read, with which the guest fits.
pub record GoesOn (settings : Settings) (before : List Access) (number : ℕ) (log : Option Log)
    (accesses : List Access) (rest : Option Log) (set : WorkingSetView) (draft : DraftView) : Type 0 where
  pub reads : Reads log accesses rest
  pub way : IsUnderWay settings before number accesses set draft
  pub same : SameTaken settings before log (before ++ accesses) rest

-- how the reading of an interval ended
abbrev pub EndsSo : (settings : Settings) (before : List Access) (number : ℕ) (log : Option Log) (end : IntervalEnd)
    (rest : Option Log) (set : WorkingSetView) (draft : DraftView) → Type 0
EndsSo settings before number log Full rest set draft =
    (accesses : List Access) × (length accesses ≡ settings.interval) × GoesOn settings before number log accesses rest set draft
EndsSo settings before number log Last rest set draft =
    (accesses : List Access) × (1 ≤ length accesses) × (length accesses ≤ settings.interval)
    × IsUnderWay settings before number accesses set draft
    × Reads log accesses rest
    × Takes settings before log (Ok (record { accesses = before ++ accesses; limit = None }))
EndsSo settings before number log Absent rest set draft = Takes settings before log (Ok (record { accesses = before; limit = None }))
EndsSo settings before number log (Passes limit) rest set draft =
    Takes settings before log (Ok (record { accesses = before; limit = Some limit }))

-- the interval has as many accesses as an interval has
abbrev pub is_full : IntervalEnd → Bool
is_full Full = true
is_full _ = false

-- the interval has accesses, and fits with them
abbrev pub is_taken : IntervalEnd → Bool
is_taken Full = true
is_taken Last = true
is_taken Absent = false
is_taken (Passes limit) = false

abbrev pub IfTaken : IntervalEnd → Type 0 → Type 0
IfTaken Full P = P
IfTaken Last P = P
IfTaken Absent P = ⊤
IfTaken (Passes limit) P = ⊤

abbrev pub UnlessTaken : IntervalEnd → Type 0 → Type 0
UnlessTaken Full P = ⊤
UnlessTaken Last P = ⊤
UnlessTaken Absent P = P
UnlessTaken (Passes limit) P = P

-- between two intervals: the working set and the draft are those of the accesses of whole intervals
pub record IsReady (settings : Settings) (before : List Access) (interval : Interval) (set : WorkingSetView) (draft : DraftView) : Type 0 where
  pub whole : length before + settings.interval ≡ interval.number * settings.interval
  pub idle : interval.idle ≡ idle_next settings.quantum (kept_of settings before)
  pub touched : set ≡ working_set (touches_in settings.has_code before) []
  pub drafted : IsDraft settings (guest_of settings before) draft
