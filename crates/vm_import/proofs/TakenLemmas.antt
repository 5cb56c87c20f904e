-- What is taken, interval by interval.
use Rattle.std.proofs.Common.{◌≡◌, ◌∙◌, ℕ, suc, ◌+◌, ◌-◌, ◌*◌, ◌≤◌, List, [], ◌++◌, length, take, Option, Some, None, Result, Ok, Err, OnErr, true, false, refl, sym, ap, subst, arith}
use Rattle.std.specs.Io.KnownBytes.{Appends}
use Rattle.vm_import.specs.declared.access.Access.{Access}
use Rattle.vm_import.specs.Logs.{Log}
use Rattle.vm_streams.specs.Streams.{AppendsFront}
use Rattle.vm_import.specs.WorkingSets.{WorkingSetView}
use Rattle.vm_import.specs.Drafts.{DraftView}
use Rattle.vm_import.specs.Guests.{Guest, guest_of}
use Rattle.vm_import.specs.Importing.{AreTaken, IsStopped, IsTaken, after_interval, written_then}
use Rattle.vm_import.specs.Intervals.{intervals_of}
use Rattle.vm_import.specs.Progress.{EndsSo, IfTaken, IsDraft, IsReady, IsUnderWay, Takes, UnlessTaken, guest_with, is_full, opening_of}
use Rattle.vm_import.specs.Settings.{Settings}
use Rattle.vm_import.specs.declared.import.Taken.{Taken}
use Rattle.vm_import.specs.declared.interval.Interval.{Interval}
use Rattle.vm_import.specs.declared.interval.IntervalEnd.{IntervalEnd}
use Rattle.vm_import.specs.declared.interval.IntervalEnd.TheVariants.{Full, Last, Absent, Passes}
use Rattle.vm_import.specs.declared.limits.Limit.{Limit}
use Rattle.vm_import.proofs.ComposedLemmas.{reads-then, same-then, takes-then}
use Rattle.vm_import.proofs.GuestLemmas.{intervals-more, intervals-whole}
use Rattle.vm_import.proofs.ReadyLemmas.{written-before}
use Rattle.vm_import.proofs.WayLemmas.{count_before, guest_with-size, way-guest}
use Rattle.vm_import.proofs.WrittenLemmas.{front-after, front-written, written-after}

module _ (settings : Settings) (lines : 1 ≤ settings.interval) where
  module _ (before accesses : List Access) (number : ℕ) (set : WorkingSetView) (draft : DraftView)
      (some : 1 ≤ length accesses) (few : length accesses ≤ settings.interval)
      (way : IsUnderWay settings before number accesses set draft) where
    same_guest : guest_of settings (before ++ accesses) ≡ guest_with settings before number set
    same_guest = way-guest settings before number accesses set draft lines some few way

    way-size : length set.pages ≡ (guest_of settings (before ++ accesses)).size
    way-size = sym (ap (λ (g : Guest). g.size) same_guest ∙ guest_with-size settings before number set)

    way-draft : IsDraft settings (guest_of settings (before ++ accesses)) draft
    way-draft = subst (λ (g : Guest). IsDraft settings g draft) (sym same_guest) way.drafted

    way-intervals : length (intervals_of settings.interval (before ++ accesses)) ≡ number
    way-intervals =
        let there = count_before settings.interval number (length before) lines way.whole in
        let same : suc there.0 ≡ number = omega (arith, there.1) in
        intervals-more settings before accesses there.0 there.2 some few ∙ same

    -- what was written before the interval
    way-written : (old mid : Option (List ℕ)) (earlier : DraftView) → IsDraft settings (guest_of settings before) earlier
        → draft.written ≡ earlier.written → Appends old mid (take earlier.written (opening_of settings (guest_of settings before)))
        → Appends old mid (take draft.written (opening_of settings (guest_of settings (before ++ accesses))))
    way-written old mid earlier is same written =
        subst (Appends old mid)
        (written-before settings before number set earlier.written is.within
        ∙ ap (λ (n : ℕ). take n (opening_of settings (guest_with settings before number set))) (sym same)
        ∙ ap (λ (g : Guest). take draft.written (opening_of settings g)) (sym same_guest))
        written

  whole-intervals : (before : List Access) (number : ℕ) → length before + settings.interval ≡ number * settings.interval
      → length (intervals_of settings.interval before) ≡ number - 1
  whole-intervals before number whole =
      let there = count_before settings.interval number (length before) lines whole in
      intervals-whole settings before there.0 lines there.2 ∙ omega (arith, there.1)

  module _ (first : Option Log) (old mid : Option (List ℕ)) (interval : Interval) (size : ℕ) (earlier : WorkingSetView)
      (start : DraftView) (log : Option Log) (are : AreTaken settings first old mid interval size earlier start log) where
    -- reading failed
    pub stopped-reading : IsStopped settings first old mid
    stopped-reading = record {
      accesses = are.before;
      rest = log;
      reads = are.reads;
      front = front-written settings (guest_of settings are.before) start are.ready.drafted old mid are.written;
    }

    module _ (rest : Option Log) (set : WorkingSetView) (draft : DraftView) (written : draft.written ≡ start.written) where
      -- an interval is taken
      pub taken-next : (new : Option (List ℕ)) (next : Interval) (begun : WorkingSetView) (drafted : DraftView)
          → EndsSo settings are.before interval.number log Full rest set draft
          → ((before accesses : List Access) → IsUnderWay settings before interval.number accesses set draft
          → length accesses ≡ settings.interval → IsReady settings (before ++ accesses) next begun drafted)
          → drafted ≡ after_interval (length set.pages) draft
          → Appends mid new (written_then (length set.pages) draft)
          → AreTaken settings first old new next (length set.pages) begun drafted rest
      taken-next new next begun drafted (accesses, full, goes) ready is then =
          let some : 1 ≤ length accesses = omega (arith, full) in
          let few : length accesses ≤ settings.interval = omega (arith, full) in
          let guest = guest_of settings (are.before ++ accesses) in
          let here : IsDraft settings guest draft = way-draft are.before accesses interval.number set draft some few goes.way in
          record {
            before = are.before ++ accesses;
            ready = ready are.before accesses goes.way full;
            reads = reads-then settings first log rest are.before accesses are.reads goes.reads;
            same = same-then settings first log rest [] are.before (are.before ++ accesses) are.same goes.same;
            size_is = way-size are.before accesses interval.number set draft some few goes.way;
            written =
                subst (λ (d : DraftView). Appends old new (take d.written (opening_of settings guest))) (sym is)
                (written-after settings guest draft here old mid new
                (way-written are.before accesses interval.number set draft some few goes.way old mid start are.ready.drafted written are.written)
                (length set.pages) then);
          }

      -- its writing failed
      pub stopped-writing : (new : Option (List ℕ)) → EndsSo settings are.before interval.number log Full rest set draft
          → AppendsFront mid new draft.text → IsStopped settings first old new
      stopped-writing new (accesses, full, goes) front =
          let some : 1 ≤ length accesses = omega (arith, full) in
          let few : length accesses ≤ settings.interval = omega (arith, full) in
          let guest = guest_of settings (are.before ++ accesses) in
          let here : IsDraft settings guest draft = way-draft are.before accesses interval.number set draft some few goes.way in
          record {
            accesses = are.before ++ accesses;
            rest = rest;
            reads = reads-then settings first log rest are.before accesses are.reads goes.reads;
            front = front-after settings guest draft here old mid new
                (way-written are.before accesses interval.number set draft some few goes.way old mid start are.ready.drafted written are.written)
                front;
          }

      -- the log ends with an interval
      pub taken-last : EndsSo settings are.before interval.number log Last rest set draft
          → IsTaken settings first old mid
          (record { imported = record { intervals = interval.number; limit = None }; size = length set.pages }) draft
      taken-last (accesses, some, few, way, reads, takes) = record {
        accesses = are.before ++ accesses;
        rest = rest;
        reads = reads-then settings first log rest are.before accesses are.reads reads;
        takes = takes-then settings first log [] are.before _ are.same takes;
        intervals = sym (way-intervals are.before accesses interval.number set draft some few way);
        size_is = way-size are.before accesses interval.number set draft some few way;
        drafted = way-draft are.before accesses interval.number set draft some few way;
        written = way-written are.before accesses interval.number set draft some few way old mid start are.ready.drafted written are.written;
      }

    -- no access of the interval is taken
    pub taken-whole : (limit : Option Limit) (draft : DraftView) → draft ≡ start
        → Takes settings are.before log (Ok (record { accesses = are.before; limit = limit }))
        → IsTaken settings first old mid
        (record { imported = record { intervals = interval.number - 1; limit = limit }; size = size }) draft
    taken-whole limit draft same takes = record {
      accesses = are.before;
      rest = log;
      reads = are.reads;
      takes = takes-then settings first log [] are.before _ are.same takes;
      intervals = sym (whole-intervals are.before interval.number are.ready.whole);
      size_is = are.size_is;
      drafted = subst (IsDraft settings (guest_of settings are.before)) (sym same) are.ready.drafted;
      written = subst (λ (d : DraftView). Appends old mid (take d.written (opening_of settings (guest_of settings are.before)))) (sym same) are.written;
    }

-- the reading of an interval that isn't full ends all
pub taken-at : (settings : Settings) (lines : 1 ≤ settings.interval) (first : Option Log) (old mid : Option (List ℕ)) (interval : Interval)
    (size : ℕ) (earlier : WorkingSetView) (start : DraftView) (log : Option Log)
    (are : AreTaken settings first old mid interval size earlier start log) (end : IntervalEnd) (rest : Option Log) (set : WorkingSetView)
    (draft : DraftView) (taken : Taken) → is_full end ≡ false → EndsSo settings are.before interval.number log end rest set draft
    → IfTaken end (draft.written ≡ start.written) → UnlessTaken end (draft ≡ start)
    → (end ≡ Last → taken ≡ record { imported = record { intervals = interval.number; limit = None }; size = length set.pages })
    → (end ≡ Absent → taken ≡ record { imported = record { intervals = interval.number - 1; limit = None }; size = size })
    → ((limit : Limit) → end ≡ Passes limit
    → taken ≡ record { imported = record { intervals = interval.number - 1; limit = Some limit }; size = size })
    → IsTaken settings first old mid taken draft
taken-at settings lines first old mid interval size earlier start log are Full rest set draft taken some ends written back last absent passes =
    absurd cc
taken-at settings lines first old mid interval size earlier start log are Last rest set draft taken some ends written back last absent passes =
    subst (λ (t : Taken). IsTaken settings first old mid t draft) (sym (last refl))
    (taken-last settings lines first old mid interval size earlier start log are rest set draft written ends)
taken-at settings lines first old mid interval size earlier start log are Absent rest set draft taken some ends written back last absent passes =
    subst (λ (t : Taken). IsTaken settings first old mid t draft) (sym (absent refl))
    (taken-whole settings lines first old mid interval size earlier start log are None draft back ends)
taken-at settings lines first old mid interval size earlier start log are (Passes limit) rest set draft taken some ends written back last absent passes =
    subst (λ (t : Taken). IsTaken settings first old mid t draft) (sym (passes limit refl))
    (taken-whole settings lines first old mid interval size earlier start log are (Some limit) draft back ends)

pub on-err : {T E : Type 0} (result : Result T E) (P : Type 0) → P → OnErr result P
on-err (Ok x) P holds = tt
on-err (Err e) P holds = holds

-- a full interval
pub full : (end : IntervalEnd) → is_full end ≡ true → end ≡ Full
full Full is = refl
full Last is = absurd cc
full Absent is = absurd cc
full (Passes limit) is = absurd cc

pub if-taken : (end : IntervalEnd) (P Q : Type 0) → (P → Q) → IfTaken end P → IfTaken end Q
if-taken Full P Q so holds = so holds
if-taken Last P Q so holds = so holds
if-taken Absent P Q so holds = tt
if-taken (Passes limit) P Q so holds = tt
