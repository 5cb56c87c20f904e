-- The accesses of an interval, one by one.
use Rattle.std.proofs.Common.{◌≡◌, ◌∙◌, ◌⊎◌, inl, inr, ℕ, ◌+◌, ◌-◌, ◌*◌, ◌/◌, ◌==◌, ◌<◌, ◌≤◌, ◌^◌, Bool, true, false, nat_lt, if◌then◌else◌, List, [], ◌∷◌, ◌++◌, length, drop, Option, Some, None, Result, Ok, Err, IfErr, IsErrAnd, is_some, refl, sym, ap, subst, arith, length-append}
use Rattle.std.proofs.Math.Nat.{lt-div-mul-add, mul-le-mul_right}
use Rattle.std.proofs.Math.Seq.{drop-append_seam, drop-length}
use Rattle.std.proofs.lemmas.Bool.Decides.{nat_tests}
use Rattle.std.proofs.lemmas.List.{append-nil, map-append, nil_from_length}
use Rattle.vm_import.specs.declared.access.Access.{Access}
use Rattle.vm_import.specs.declared.faults.LineFault.{LineFault}
use Rattle.vm_import.specs.declared.faults.LogError.{LogError}
use Rattle.vm_import.specs.declared.faults.LogError.TheVariants as reading
use Rattle.vm_import.specs.Logs.{Log}
use Rattle.vm_import.specs.Reading.{BeginsWithFault, Gives, Stays}
use Rattle.vm_import.specs.declared.touch.RankedTouch.{RankedTouch}
use Rattle.vm_import.specs.WorkingSets.{Extends, GoesOn as SetGoesOn, WorkingSetView}
use Rattle.vm_import.specs.Drafts.{DraftView, with_steps}
use Rattle.vm_import.specs.Errors.{error_of}
use Rattle.vm_import.specs.Failing.{CantBeRead, FailsBehind, FailsToSkip, Skips}
use Rattle.vm_import.specs.Guests.{epochs_of, guest_of}
use Rattle.vm_import.specs.Limits.{passed_by}
use Rattle.vm_import.specs.Progress.{EndsSo, GoesOn, IsShort, IsUnderWay, Takes, is_taken, limit_of}
use Rattle.vm_import.specs.Settings.{Settings}
use Rattle.vm_import.specs.Steps.{idle_steps, step_of, steps_of}
use Rattle.vm_import.specs.Texts.{tail_of}
use Rattle.vm_import.specs.Touched.{touched_by}
use Rattle.vm_import.specs.declared.interval.IntervalEnd.{IntervalEnd}
use Rattle.vm_import.specs.declared.interval.IntervalEnd.TheVariants.{Full, Last, Absent, Passes}
use Rattle.vm_import.specs.declared.limits.Limit.{Limit}
use Rattle.vm_import.specs.declared.limits.Limit.TheVariants.{Steps, Pages, Epochs, Bytes}
use Rattle.vm_import.specs.declared.outcome.ImportError.{ImportError}
use Rattle.vm_import.proofs.ComposedLemmas.{cant-then, skips-ended, skips-fault, skips-more}
use Rattle.vm_import.proofs.CountLemmas.{length-idle_steps}
use Rattle.vm_import.proofs.DraftLemmas.{with_steps-none, with_steps-then}
use Rattle.vm_import.proofs.TakingLemmas.{ends-taken, fault-taken, passes-taken, reads-ended, reads-more, same-more, whole_intervals-more}
use Rattle.vm_import.proofs.WayLemmas.{count_before, way-more, way-passes}

-- ---- limits

unless_none : (b : Bool) (limit : Limit) (others : Option Limit) → (if b then Some limit else others) ≡ None → (b ≡ false) × (others ≡ None)
unless_none true limit others none = absurd cc
unless_none false limit others none = (refl, none)

not_above : (a b : ℕ) → nat_lt a b ≡ false → b ≤ a
not_above a b less = grind (arith, nat_tests)

-- what passes no limit is small
pub record IsWithin (settings : Settings) (pages : ℕ) (draft : DraftView) : Type 0 where
  pub steps : draft.steps ≤ settings.steps
  pub pages_few : pages ≤ 262144
  pub epochs : draft.steps ≤ 10000 * settings.quantum
  pub bytes : draft.written + length draft.text ≤ 16777216

few_epochs : (steps quantum : ℕ) → 1 ≤ quantum → (steps + (quantum - 1)) / quantum ≤ 10000 → steps ≤ 10000 * quantum
few_epochs steps quantum some few =
    let epochs = (steps + (quantum - 1)) / quantum in
    let below : steps + (quantum - 1) < epochs * quantum + quantum = lt-div-mul-add (omega arith) in
    let product : epochs * quantum ≤ 10000 * quantum = mul-le-mul_right quantum few in
    omega arith

pub within : (settings : Settings) (pages : ℕ) (draft : DraftView) → 1 ≤ settings.quantum → limit_of settings pages draft ≡ None
    → IsWithin settings pages draft
within settings pages draft some none =
    let size = draft.written + length draft.text + length (tail_of settings pages draft.steps) in
    let by_bytes : Option Limit = if nat_lt 16777216 size then Some Bytes else None in
    let by_epochs : Option Limit = if nat_lt 10000 (epochs_of settings.quantum draft.steps) then Some Epochs else by_bytes in
    let by_pages : Option Limit = if nat_lt 262144 pages then Some Pages else by_epochs in
    let first : (nat_lt settings.steps draft.steps ≡ false) × (by_pages ≡ None) =
    unless_none (nat_lt settings.steps draft.steps) (Steps settings.steps) by_pages none in
    let second : (nat_lt 262144 pages ≡ false) × (by_epochs ≡ None) = unless_none (nat_lt 262144 pages) Pages by_epochs first.1 in
    let third : (nat_lt 10000 (epochs_of settings.quantum draft.steps) ≡ false) × (by_bytes ≡ None) =
    unless_none (nat_lt 10000 (epochs_of settings.quantum draft.steps)) Epochs by_bytes second.1 in
    let fourth : (nat_lt 16777216 size ≡ false) × (◌≡◌ {A = Option Limit} None None) = unless_none (nat_lt 16777216 size) Bytes None third.1 in
    let bytes : size ≤ 16777216 = not_above 16777216 size fourth.0 in
    record {
      steps = not_above settings.steps draft.steps first.0;
      pages_few = not_above 262144 pages second.0;
      epochs = few_epochs draft.steps settings.quantum some (not_above 10000 (epochs_of settings.quantum draft.steps) third.0);
      bytes = omega (arith, bytes);
    }

-- ---- one access more

module _ (settings : Settings) (number : ℕ) (old new : WorkingSetView) (draft drafted : DraftView)
    (is : drafted ≡ with_steps draft (steps_of number (drop (length old.kept) new.kept))) where
  -- where nothing changes the guest passes what it passed
  same_limit : new ≡ old → limit_of settings (length new.pages) drafted ≡ limit_of settings (length old.pages) draft
  same_limit same =
      let none : drop (length old.kept) new.kept ≡ [] =
      ap (λ (s : WorkingSetView). drop (length old.kept) s.kept) same ∙ drop-length old.kept in
      let draft_same : drafted ≡ draft =
      is ∙ ap (λ (l : List RankedTouch). with_steps draft (steps_of number l)) none ∙ with_steps-none draft in
      ap (λ (s : WorkingSetView). limit_of settings (length s.pages) drafted) same
      ∙ ap (limit_of settings (length old.pages)) draft_same

  -- the limit is the one that is passed
  pub told : (is_first : Bool) (limit : Option Limit) → (is_first ≡ false → limit_of settings (length old.pages) draft ≡ None)
      → (limit ≡ limit_of settings (length new.pages) drafted) ⊎ ((is_first ≡ false) × (limit ≡ None) × (new ≡ old))
      → limit ≡ limit_of settings (length new.pages) drafted
  told is_first limit fits (inl same) = same
  told is_first limit fits (inr (later, none, same)) = none ∙ sym (same_limit same ∙ fits later)

  -- the draft has the steps of all that is kept
  pub grows-more : (start : DraftView) → Extends old.kept new.kept → draft ≡ with_steps start (steps_of number old.kept)
      → drafted ≡ with_steps start (steps_of number new.kept)
  grows-more start extends grows =
      let behind : drop (length old.kept) new.kept ≡ extends.0 =
      ap (drop (length old.kept)) extends.1 ∙ drop-append_seam old.kept extends.0 in
      is
      ∙ ap (λ (l : List RankedTouch). with_steps draft (steps_of number l)) behind
      ∙ ap (λ (d : DraftView). with_steps d (steps_of number extends.0)) grows
      ∙ with_steps-then start (steps_of number old.kept) (steps_of number extends.0)
      ∙ ap (with_steps start) (sym (map-append (step_of number) old.kept extends.0))
      ∙ ap (λ (l : List RankedTouch). with_steps start (steps_of number l)) (sym extends.1)

module _ (settings : Settings) (before : List Access) (number : ℕ) (lines : 1 ≤ settings.interval) (first log rest : Option Log)
    (accesses : List Access) (old : WorkingSetView) (draft : DraftView)
    (goes : GoesOn settings before number first accesses log old draft) where
  module _ (access : Access) (new : WorkingSetView) (drafted : DraftView) (gives : Gives log rest (Some access))
      (short : length accesses < settings.interval)
      (touched : SetGoesOn old new (touched_by settings.has_code access)) (extends : Extends old.kept new.kept)
      (is : drafted ≡ with_steps draft (steps_of number (drop (length old.kept) new.kept))) where
    long : length (accesses ++ access ∷ []) ≡ length accesses + 1
    long = length-append accesses (access ∷ [])

    way : IsUnderWay settings before number (accesses ++ access ∷ []) new drafted
    way = way-more settings before number accesses access old new draft drafted goes.way touched extends is

    passes : passed_by settings (guest_of settings (before ++ (accesses ++ access ∷ []))) ≡ limit_of settings (length new.pages) drafted
    passes = way-passes settings before number (accesses ++ access ∷ []) new drafted lines (omega (arith, long)) (omega (arith, long)) way

    -- the guest fits with it
    pub goes-on : limit_of settings (length new.pages) drafted ≡ None
        → GoesOn settings before number first (accesses ++ access ∷ []) rest new drafted
    goes-on none = record {
      reads = reads-more first log rest accesses access goes.reads gives;
      way = way;
      same = same-more settings before accesses access first log rest goes.same gives (passes ∙ none);
    }

    -- it doesn't
    pub passes-limit : (limit : Limit) (set : WorkingSetView) (end : DraftView) → limit_of settings (length new.pages) drafted ≡ Some limit
        → EndsSo settings before number first (Passes limit) rest set end
    passes-limit limit set end some =
        let there = count_before settings.interval number (length before) lines goes.way.whole in
        passes-taken settings before accesses access first log rest limit goes.same gives (passes ∙ some)
        (whole_intervals-more settings.interval there.0 before accesses there.2 short)

  -- the log ends
  pub ends-last : Gives log rest None → 1 ≤ length accesses → length accesses ≤ settings.interval
      → EndsSo settings before number first Last rest old draft
  ends-last gives some few = (
    accesses,
    some,
    few,
    goes.way,
    reads-ended first log rest accesses goes.reads gives,
    ends-taken settings before first (before ++ accesses) log rest goes.same gives,
  )

  pub ends-absent : Gives log rest None → length accesses ≡ 0 → EndsSo settings before number first Absent rest old draft
  ends-absent gives none =
      let whole : before ++ accesses ≡ before =
      ap (λ (l : List Access). before ++ l) (nil_from_length accesses none) ∙ append-nil before in
      subst (λ (l : List Access). Takes settings before first (Ok (record { accesses = l; limit = None }))) whole
      (ends-taken settings before first (before ++ accesses) log rest goes.same gives)

  -- it can't be read any further
  pub fails : (error : LogError) (length_first length_log : Option ℕ) (failed : Bool) → Stays length_first length_log
      → ((line : ℕ) (fault : LineFault) → error ≡ reading.Line line fault → BeginsWithFault log line fault)
      → (error ≡ reading.Read → failed ≡ true)
      → (error ≡ reading.TooLong → CantBeRead length_log failed)
      → FailsBehind settings before first length_first failed (error_of error)
  fails (reading.Line line fault) length_first length_log failed stays faulty failure over =
      fault-taken settings before first (before ++ accesses) log line fault goes.same (faulty line fault refl)
  fails reading.Read length_first length_log failed stays faulty failure over = inl (failure refl)
  fails reading.TooLong length_first length_log failed stays faulty failure over =
      cant-then length_first length_log failed stays (over refl)

-- an error that is passed on
pub passed-on : {T : Type 0} (result : Result T ImportError) (error : ImportError) (P : ImportError → Type 0) → P error
    → IsErrAnd result (λ e. e ≡ error) → IfErr result P
passed-on (Ok x) error P holds same = absurd same
passed-on (Err e) error P holds same = subst P (sym same) holds

-- ---- skipping

pub skips-step : (count : ℕ) (first log rest : Option Log) (found : Option Access) → is_some found ≡ true → Skips count first log
    → Gives log rest found → Skips (count + 1) first rest
skips-step count first log rest None some skips gives = absurd cc
skips-step count first log rest (Some access) some skips gives = skips-more count first log rest access skips gives

pub skips-end : (count more : ℕ) (first log rest : Option Log) (found : Option Access) → is_some found ≡ false → count ≤ more
    → Skips count first log → Gives log rest found → Skips more first rest
skips-end count more first log rest None none few skips gives = skips-ended count more first log rest few skips gives
skips-end count more first log rest (Some access) none few skips gives = absurd cc

pub skips-fails : (count more : ℕ) (first log : Option Log) (error : LogError) (length_first length_log : Option ℕ) (failed : Bool)
    → count ≤ more → Skips count first log → Stays length_first length_log
    → ((line : ℕ) (fault : LineFault) → error ≡ reading.Line line fault → BeginsWithFault log line fault)
    → (error ≡ reading.Read → failed ≡ true)
    → (error ≡ reading.TooLong → CantBeRead length_log failed)
    → FailsToSkip more first length_first failed (error_of error)
skips-fails count more first log (reading.Line line fault) length_first length_log failed few skips stays faulty failure over =
    skips-fault count more first log line fault few skips (faulty line fault refl)
skips-fails count more first log reading.Read length_first length_log failed few skips stays faulty failure over = inl (failure refl)
skips-fails count more first log reading.TooLong length_first length_log failed few skips stays faulty failure over =
    cant-then length_first length_log failed stays (over refl)

-- ---- what an answer needs

pub err-same : (error other : LogError) → error ≡ other → ◌≡◌ {A = Result (Option Access) LogError} (Err error) (Err other)
err-same error other is = ap Err is

pub positive : (n : ℕ) → (n == 0) ≡ false → 0 < n
positive n some = grind (arith, nat_tests)

-- where no access is taken nothing more is said
pub ends-untaken : (settings : Settings) (before : List Access) (number : ℕ) (first : Option Log) (end : IntervalEnd) (rest : Option Log)
    (set new : WorkingSetView) (draft drafted : DraftView) → is_taken end ≡ false
    → EndsSo settings before number first end rest set draft → EndsSo settings before number first end rest new drafted
ends-untaken settings before number first Full rest set new draft drafted none ends = absurd cc
ends-untaken settings before number first Last rest set new draft drafted none ends = absurd cc
ends-untaken settings before number first Absent rest set new draft drafted none ends = ends
ends-untaken settings before number first (Passes limit) rest set new draft drafted none ends = ends

-- idle steps leave room for more
pub idle-short : (draft drafted : DraftView) (idle : ℕ) → drafted ≡ with_steps draft (idle_steps idle) → draft.steps ≤ 1000000
    → idle ≤ 2 ^ 31 → draft.written ≤ 2 ^ 32 → IsShort drafted
idle-short draft drafted idle is steps few written =
    let steps_are : drafted.steps ≡ draft.steps + idle =
    ap (λ (d : DraftView). d.steps) is ∙ ap (λ (n : ℕ). draft.steps + n) (length-idle_steps idle) in
    let written_is : drafted.written ≡ draft.written = ap (λ (d : DraftView). d.written) is in
    record { steps = omega arith; written = omega arith }

pub short-within : (settings : Settings) (pages : ℕ) (draft drafted : DraftView) (steps : List (List ℕ)) → settings.steps ≤ 1000000
    → IsWithin settings pages drafted → drafted ≡ with_steps draft steps → IsShort draft → IsShort drafted
short-within settings pages draft drafted steps most small is short =
    let few = small.steps in
    let written = short.written in
    let written_is : drafted.written ≡ draft.written = ap (λ (d : DraftView). d.written) is in
    record { steps = omega arith; written = omega arith }
