-- What comes of a whole log.
use Rattle.std.proofs.Common.{◌≡◌, ◌∙◌, ◌⊎◌, inl, inr, ℕ, ◌≤◌, ◌^◌, Bool, true, List, [], ◌++◌, length, take, drop, Option, Some, None, IfSome, Result, Ok, Err, refl, sym, ap, subst, arith}
use Rattle.std.proofs.Math.Seq.{take-append_seam}
use Rattle.std.specs.Io.KnownBytes.{Appends, Keeps}
use Rattle.vm_import.specs.declared.access.Access.{Access}
use Rattle.vm_import.specs.declared.faults.LineFault.{LineFault}
use Rattle.vm_import.specs.Logs.{FaultAt, Log, log_of}
use Rattle.vm_import.specs.Reading.{Stays, beginning, left, length_in_all}
use Rattle.vm_streams.specs.Streams.{AppendsFront}
use Rattle.vm_streams.proofs.StreamLemmas.{AppendsFront-none}
use Rattle.vm_import.specs.Drafts.{DraftView}
use Rattle.vm_import.specs.Failing.{CantBeRead, FailsToSkip, Skips, without}
use Rattle.vm_import.specs.Guests.{guest_of}
use Rattle.vm_import.specs.Importing.{FailsToTake, IsTaken}
use Rattle.vm_import.specs.Imports.{Fails, WritesFront, WritesGuest}
use Rattle.vm_import.specs.Progress.{Reads, Takes, opening_of}
use Rattle.vm_import.specs.Settings.{Settings}
use Rattle.vm_import.specs.Taking.{Taken as TakenOf, taken_behind, taken_of}
use Rattle.vm_import.specs.Texts.{tail_of, text_of}
use Rattle.vm_import.specs.declared.import.Taken.{Taken}
use Rattle.vm_import.specs.declared.outcome.ImportError.{ImportError}
use Rattle.vm_import.specs.declared.outcome.ImportError.TheVariants.{Line, Untouched, Read, Write, Memory}
use Rattle.vm_import.proofs.ComposedLemmas.{Stays-refl}
use Rattle.vm_import.proofs.WrittenLemmas.{Appends-none, front-all, front-written, written-all}

-- the log of known bytes
from_beginning : (bytes : List ℕ) → left beginning (Some bytes) ≡ Some (log_of bytes)
unfolding left
from_beginning bytes = refl

module _ (settings : Settings) where
  skipped : (bytes : List ℕ) (first : Option Log) → Skips settings.skip (left beginning (Some bytes)) first
      → Skips settings.skip (Some (log_of bytes)) first
  skipped bytes first skips = subst (λ (l : Option Log). Skips settings.skip l first) (from_beginning bytes) skips

  -- nothing was written
  pub front-none : (read_old old : Option (List ℕ)) → WritesFront settings read_old old old
  front-none None old = tt
  front-none (Some bytes) old = (0, AppendsFront-none old _)

  reading_front : (bytes : List ℕ) (first : Option Log) (accesses : List Access) (rest : Option Log) (old new : Option (List ℕ))
      → Skips settings.skip (Some (log_of bytes)) first → Reads first accesses rest
      → AppendsFront old new (text_of settings (guest_of settings accesses)) → WritesFront settings (Some bytes) old new
  reading_front bytes None accesses rest old new skips reads front = absurd skips
  reading_front bytes (Some log) accesses None old new skips reads front = absurd reads
  reading_front bytes (Some log) accesses (Some rest) old new skips reads front =
      let all : drop settings.skip (log_of bytes).accesses ≡ accesses ++ rest.accesses = ap (λ (l : Log). l.accesses) (sym skips ∙ reads) in (
        length accesses,
        subst (λ (l : List Access). AppendsFront old new (text_of settings (guest_of settings l)))
            (sym (ap (take (length accesses)) all ∙ take-append_seam accesses rest.accesses)) front,
      )

  pub front-stopped : (read_old : Option (List ℕ)) (first : Option Log) (accesses : List Access) (rest : Option Log) (old new : Option (List ℕ))
      → Skips settings.skip (left beginning read_old) first → Reads first accesses rest
      → AppendsFront old new (text_of settings (guest_of settings accesses)) → WritesFront settings read_old old new
  front-stopped None first accesses rest old new skips reads front = tt
  front-stopped (Some bytes) first accesses rest old new skips reads front =
      reading_front bytes first accesses rest old new (skipped bytes first skips) reads front

  -- ---- what is taken

  takes_all : (bytes : List ℕ) (first : Option Log) (taken : Result TakenOf FaultAt) → Skips settings.skip (Some (log_of bytes)) first
      → Takes settings [] first taken → taken_of settings (log_of bytes) ≡ taken
  takes_all bytes None taken skips takes = absurd skips
  takes_all bytes (Some log) taken skips takes = ap (λ (l : Log). taken_behind settings l.fault [] l.accesses) (sym skips) ∙ takes

  pub takes-known : (read_old : Option (List ℕ)) (first : Option Log) (taken : Result TakenOf FaultAt)
      → Skips settings.skip (left beginning read_old) first → Takes settings [] first taken
      → IfSome read_old (λ bytes. taken_of settings (log_of bytes) ≡ taken)
  takes-known None first taken skips takes = tt
  takes-known (Some bytes) first taken skips takes = takes_all bytes first taken (skipped bytes first skips) takes

  -- ---- why it isn't

  cant-known : (read_old : Option (List ℕ)) (length_first : Option ℕ) (failed : Bool)
      → Stays (length_in_all beginning read_old) length_first → CantBeRead length_first failed
      → (failed ≡ true) ⊎ IfSome read_old (λ bytes. 2 ^ 64 ≤ length bytes)
  cant-known read_old length_first failed stays (inl is) = inl is
  cant-known None length_first failed stays (inr long) = inr tt
  cant-known (Some bytes) None failed stays (inr long) = absurd stays
  cant-known (Some bytes) (Some n) failed stays (inr long) = inr (omega (arith, stays, long))

  pub fails-skipping : (read_old old : Option (List ℕ)) (read_failed write_failed : Bool) (error : ImportError)
      → FailsToSkip settings.skip (left beginning read_old) (length_in_all beginning read_old) read_failed error
      → Fails settings read_old old old read_failed write_failed error
  fails-skipping None old read_failed write_failed (Line number fault) fails = (tt, tt)
  fails-skipping (Some bytes) old read_failed write_failed (Line number fault) fails = (front-none (Some bytes) old, fault_met bytes number fault fails)
    where
      fault_met : (bytes : List ℕ) (number : ℕ) (fault : LineFault)
          → IfSome (left beginning (Some bytes)) (λ log. without settings.skip log
          ≡ record { accesses = []; fault = Some (record { number = number; fault = fault }) })
          → taken_of settings (log_of bytes) ≡ Err (record { number = number; fault = fault })
      fault_met bytes number fault fails =
          let is : without settings.skip (log_of bytes) ≡ record { accesses = []; fault = Some (record { number = number; fault = fault }) } =
          subst (λ (l : Option Log). IfSome l (λ log. without settings.skip log
          ≡ record { accesses = []; fault = Some (record { number = number; fault = fault }) })) (from_beginning bytes) fails in
          ap (λ (l : Log). taken_behind settings l.fault [] l.accesses) is
  fails-skipping read_old old read_failed write_failed (Untouched imported) fails = absurd fails
  fails-skipping read_old old read_failed write_failed Read fails =
      (front-none read_old old, cant-known read_old (length_in_all beginning read_old) read_failed (Stays-refl _) fails)
  fails-skipping read_old old read_failed write_failed Write fails = absurd fails
  fails-skipping read_old old read_failed write_failed Memory fails = absurd fails

  pub fails-taking : (read_old old new : Option (List ℕ)) (first : Option Log) (length_first : Option ℕ) (read_failed write_failed : Bool)
      (error : ImportError) → Skips settings.skip (left beginning read_old) first
      → Stays (length_in_all beginning read_old) length_first → WritesFront settings read_old old new
      → FailsToTake settings first length_first read_failed write_failed error
      → Fails settings read_old old new read_failed write_failed error
  fails-taking read_old old new first length_first read_failed write_failed (Line number fault) skips stays front fails =
      (front, takes-known read_old first _ skips fails)
  fails-taking read_old old new first length_first read_failed write_failed (Untouched imported) skips stays front fails = absurd fails
  fails-taking read_old old new first length_first read_failed write_failed Read skips stays front fails =
      (front, cant-known read_old length_first read_failed stays fails)
  fails-taking read_old old new first length_first read_failed write_failed Write skips stays front fails = (front, fails)
  fails-taking read_old old new first length_first read_failed write_failed Memory skips stays front fails = front

  -- ---- the end

  module _ (read_old : Option (List ℕ)) (first : Option Log) (old mid : Option (List ℕ)) (taken : Taken) (draft : DraftView)
      (skips : Skips settings.skip (left beginning read_old) first) (is : IsTaken settings first old mid taken draft) where
    guest_tail : tail_of settings taken.size draft.steps
        ≡ tail_of settings (guest_of settings is.accesses).size (length (guest_of settings is.accesses).trace)
    guest_tail =
        ap (λ (n : ℕ). tail_of settings n draft.steps) is.size_is
        ∙ ap (tail_of settings (guest_of settings is.accesses).size) is.drafted.steps

    -- the guest is written
    pub guest-written : (new : Option (List ℕ)) → 1 ≤ taken.size → Appends mid new (draft.text ++ tail_of settings taken.size draft.steps)
        → WritesGuest settings read_old old new taken.imported
    guest-written new some all =
        told read_old (takes-known read_old first _ skips is.takes)
      where
        size_is : 1 ≤ (guest_of settings is.accesses).size
        size_is = subst (λ (n : ℕ). 1 ≤ n) is.size_is some

        told : (read_old : Option (List ℕ))
            → IfSome read_old (λ bytes. taken_of settings (log_of bytes)
            ≡ Ok (record { accesses = is.accesses; limit = taken.imported.limit }))
            → WritesGuest settings read_old old new taken.imported
        told None known = tt
        told (Some bytes) known = (
          is.accesses,
          known,
          is.intervals,
          (
            size_is,
            written-all settings (guest_of settings is.accesses) draft is.drafted old mid new is.written _ guest_tail all,
          ),
        )

    -- it touches no page
    pub untouched : taken.size ≡ 0 → draft.written ≡ 0
        → (read_failed write_failed : Bool) → Fails settings read_old old mid read_failed write_failed (Untouched taken.imported)
    untouched none silent read_failed write_failed = told read_old (takes-known read_old first _ skips is.takes)
      where
        keeps : Keeps old mid
        keeps =
            Appends-none old mid
            (subst (λ (n : ℕ). Appends old mid (take n (opening_of settings (guest_of settings is.accesses)))) silent is.written)

        told : (read_old : Option (List ℕ))
            → IfSome read_old (λ bytes. taken_of settings (log_of bytes)
            ≡ Ok (record { accesses = is.accesses; limit = taken.imported.limit }))
            → Fails settings read_old old mid read_failed write_failed (Untouched taken.imported)
        told None known = tt
        told (Some bytes) known = (keeps, (is.accesses, known, is.intervals, sym is.size_is ∙ none))

    -- a front of it is written
    pub front-unfinished : WritesFront settings read_old old mid
    front-unfinished =
        front-stopped read_old first is.accesses is.rest old mid skips is.reads
        (front-written settings (guest_of settings is.accesses) draft is.drafted old mid is.written)

    pub front-unwritten : (new : Option (List ℕ)) → AppendsFront mid new (draft.text ++ tail_of settings taken.size draft.steps)
        → WritesFront settings read_old old new
    front-unwritten new front =
        front-stopped read_old first is.accesses is.rest old new skips is.reads
        (front-all settings (guest_of settings is.accesses) draft is.drafted old mid new is.written _ guest_tail front)
