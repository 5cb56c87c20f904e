-- What is taken of a log, interval by interval, and what is written meanwhile. Of the sink it names the bytes before and after.
use Rattle.std.specs.Prelude.{◌≡◌, ℕ, ◌==◌, Bool, true, if◌then◌else◌, List, [], length, take, Option, Ok}
use Rattle.std.specs.Io.KnownBytes.{Appends}
use Rattle.vm_import.specs.declared.access.Access.{Access}
use Rattle.vm_import.specs.Logs.{Log}
use Rattle.vm_streams.specs.Streams.{AppendsFront}
use Rattle.vm_import.specs.WorkingSets.{WorkingSetView}
use Rattle.vm_import.specs.Drafts.{DraftView, all_written}
use Rattle.vm_import.specs.Failing.{FailsBehind}
use Rattle.vm_import.specs.Guests.{guest_of}
use Rattle.vm_import.specs.Intervals.{intervals_of}
use Rattle.vm_import.specs.Progress.{IsDraft, IsReady, Reads, SameTaken, Takes, opening_of}
use Rattle.vm_import.specs.Settings.{Settings}
use Rattle.vm_import.specs.Texts.{text_of}
use Rattle.vm_import.specs.declared.import.Taken.{Taken}
use Rattle.vm_import.specs.declared.outcome.ImportError.{ImportError}
use Rattle.vm_import.specs.declared.outcome.ImportError.TheVariants.{Write}
use Rattle.vm_import.specs.declared.interval.Interval.{Interval}

-- the draft after an interval: nothing is written before a page is touched
abbrev pub after_interval : (pages : ℕ) → DraftView → DraftView
after_interval pages draft = if pages == 0 then draft else all_written draft

-- what is written after it
abbrev pub written_then : (pages : ℕ) → DraftView → List ℕ
written_then pages draft = if pages == 0 then [] else draft.text

-- each error of the taking of intervals has its cause
abbrev pub FailsToTake : Settings → Option Log → Option ℕ → (read_failed write_failed : Bool) → ImportError → Type 0
FailsToTake settings first length read_failed write_failed Write = write_failed ≡ true
FailsToTake settings first length read_failed write_failed error = FailsBehind settings [] first length read_failed error

module _ (settings : Settings) (first : Option Log) (written_old written_new : Option (List ℕ)) where
  -- between two intervals
  pub record AreTaken (interval : Interval) (size : ℕ) (set : WorkingSetView) (draft : DraftView) (log : Option Log) : Type 0 where
    -- the accesses of the intervals that were taken
    pub before : List Access
    pub ready : IsReady settings before interval set draft
    pub reads : Reads first before log
    pub same : SameTaken settings [] first before log
    pub size_is : size ≡ (guest_of settings before).size
    pub written : Appends written_old written_new (take draft.written (opening_of settings (guest_of settings before)))

  -- when reading has ended
  pub record IsTaken (taken : Taken) (draft : DraftView) : Type 0 where
    pub accesses : List Access
    pub rest : Option Log
    pub reads : Reads first accesses rest
    pub takes : Takes settings [] first (Ok (record { accesses = accesses; limit = taken.imported.limit }))
    pub intervals : taken.imported.intervals ≡ length (intervals_of settings.interval accesses)
    pub size_is : taken.size ≡ (guest_of settings accesses).size
    pub drafted : IsDraft settings (guest_of settings accesses) draft
    pub written : Appends written_old written_new (take draft.written (opening_of settings (guest_of settings accesses)))

  -- A front was written of the text that a front of the log's accesses makes.
  pub record IsStopped : Type 0 where
    pub accesses : List Access
    pub rest : Option Log
    pub reads : Reads first accesses rest
    pub front : AppendsFront written_old written_new (text_of settings (guest_of settings accesses))
