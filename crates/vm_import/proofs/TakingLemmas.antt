-- How far a log is taken, from access to access.
use Rattle.std.proofs.Common.{◌≡◌, ◌∙◌, ℕ, ◌+◌, ◌*◌, ◌/◌, ◌<◌, ◌≤◌, List, [], ◌∷◌, ◌++◌, length, take, Option, Some, None, Result, Ok, Err, refl, sym, ap, arith, append_assoc, length-append}
use Rattle.std.proofs.Math.Nat.{div-eq_of_lt-le}
use Rattle.std.proofs.Math.Seq.{take-append_seam}
use Rattle.vm_import.specs.declared.access.Access.{Access}
use Rattle.vm_import.specs.declared.faults.LineFault.{LineFault}
use Rattle.vm_import.specs.Logs.{FaultAt, Log, onto}
use Rattle.vm_import.specs.Reading.{BeginsWithFault, Gives}
use Rattle.vm_import.specs.Guests.{guest_of}
use Rattle.vm_import.specs.Limits.{passed_by}
use Rattle.vm_import.specs.Progress.{Reads, SameTaken, Takes}
use Rattle.vm_import.specs.Settings.{Settings}
use Rattle.vm_import.specs.Taking.{Taken, taken_behind, unless_passed, whole_intervals}
use Rattle.vm_import.specs.declared.limits.Limit.{Limit}

-- the whole intervals of accesses that begin with whole ones, and have some of one more
pub whole_intervals-more : (lines count : ℕ) (before accesses : List Access) → length before ≡ count * lines → length accesses < lines
    → whole_intervals lines (before ++ accesses) ≡ before
whole_intervals-more lines count before accesses whole few =
    let long : length (before ++ accesses) ≡ count * lines + length accesses = length-append before accesses ∙ ap (λ (n : ℕ). n + length accesses) whole in
    let low : count * lines ≤ length (before ++ accesses) = omega (arith, long) in
    let high : length (before ++ accesses) < (count + 1) * lines = omega (arith, long) in
    let quotient : length (before ++ accesses) / lines ≡ count = div-eq_of_lt-le lines low high in
    ap (λ (n : ℕ). take (n * lines) (before ++ accesses)) quotient
    ∙ ap (λ (n : ℕ). take n (before ++ accesses)) (sym whole)
    ∙ take-append_seam before accesses

module _ (settings : Settings) (before : List Access) where
  taken_in : List Access → Log → Result Taken FaultAt
  taken_in after log = taken_behind settings log.fault after log.accesses

  -- the log ends
  pub ends-taken : (first : Option Log) (after : List Access) (log rest : Option Log) → SameTaken settings before first after log
      → Gives log rest None → Takes settings before first (Ok (record { accesses = after; limit = None }))
  unfolding taken_in
  ends-taken None after log rest same gives = tt
  ends-taken (Some all) after None rest same gives = absurd same
  ends-taken (Some all) after (Some log) None same gives = absurd gives
  ends-taken (Some all) after (Some log) (Some rest) same gives = same ∙ ap (taken_in after) gives.0

  -- the log has a fault
  pub fault-taken : (first : Option Log) (after : List Access) (log : Option Log) (number : ℕ) (fault : LineFault)
      → SameTaken settings before first after log → BeginsWithFault log number fault
      → Takes settings before first (Err (record { number = number; fault = fault }))
  unfolding taken_in
  fault-taken None after log number fault same begins = tt
  fault-taken (Some all) after None number fault same begins = absurd same
  fault-taken (Some all) after (Some log) number fault same begins = same ∙ ap (taken_in after) begins

  module _ (accesses : List Access) (access : Access) where
    next : (log rest : Log) (passed : Option Limit) → log ≡ onto access rest
        → passed_by settings (guest_of settings (before ++ (accesses ++ access ∷ []))) ≡ passed
        → taken_in (before ++ accesses) log
        ≡ unless_passed passed settings (before ++ accesses) (taken_in (before ++ (accesses ++ access ∷ [])) rest)
    unfolding taken_in
    next log rest passed is passes =
        let same : (before ++ accesses) ++ access ∷ [] ≡ before ++ (accesses ++ access ∷ []) = append_assoc before accesses (access ∷ []) in
        ap (taken_in (before ++ accesses)) is
        ∙ ap (λ (l : List Access). unless_passed (passed_by settings (guest_of settings l)) settings (before ++ accesses)
        (taken_behind settings rest.fault l rest.accesses)) same
        ∙ ap (λ (p : Option Limit). unless_passed p settings (before ++ accesses)
        (taken_behind settings rest.fault (before ++ (accesses ++ access ∷ [])) rest.accesses)) passes

    -- one more access that fits
    pub same-more : (first log rest : Option Log) → SameTaken settings before first (before ++ accesses) log
        → Gives log rest (Some access)
        → passed_by settings (guest_of settings (before ++ (accesses ++ access ∷ []))) ≡ None
        → SameTaken settings before first (before ++ (accesses ++ access ∷ [])) rest
    unfolding taken_in
    same-more None log rest same gives fits = tt
    same-more (Some all) None rest same gives fits = absurd same
    same-more (Some all) (Some log) None same gives fits = absurd gives
    same-more (Some all) (Some log) (Some rest) same gives fits = same ∙ next log rest None gives fits

    -- one that passes a limit
    pub passes-taken : (first log rest : Option Log) (limit : Limit) → SameTaken settings before first (before ++ accesses) log
        → Gives log rest (Some access)
        → passed_by settings (guest_of settings (before ++ (accesses ++ access ∷ []))) ≡ Some limit
        → whole_intervals settings.interval (before ++ accesses) ≡ before
        → Takes settings before first (Ok (record { accesses = before; limit = Some limit }))
    unfolding taken_in
    passes-taken None log rest limit same gives passes whole = tt
    passes-taken (Some all) None rest limit same gives passes whole = absurd same
    passes-taken (Some all) (Some log) None limit same gives passes whole = absurd gives
    passes-taken (Some all) (Some log) (Some rest) limit same gives passes whole =
        same ∙ next log rest (Some limit) gives passes
        ∙ ap (λ (l : List Access). Ok (record { accesses = l; limit = Some limit })) whole

-- ---- what was read

pub reads-more : (first log rest : Option Log) (accesses : List Access) (access : Access) → Reads first accesses log
    → Gives log rest (Some access) → Reads first (accesses ++ access ∷ []) rest
reads-more None log rest accesses access reads gives = tt
reads-more (Some all) None rest accesses access reads gives = absurd reads
reads-more (Some all) (Some log) None accesses access reads gives = absurd gives
reads-more (Some all) (Some log) (Some rest) accesses access reads gives =
    reads
    ∙ ap (λ (l : Log). record { accesses = accesses ++ l.accesses; fault = l.fault }) gives
    ∙ ap (λ (l : List Access). record { accesses = l; fault = rest.fault }) (sym (append_assoc accesses (access ∷ []) rest.accesses))

pub reads-ended : (first log rest : Option Log) (accesses : List Access) → Reads first accesses log → Gives log rest None
    → Reads first accesses rest
reads-ended None log rest accesses reads gives = tt
reads-ended (Some all) None rest accesses reads gives = absurd reads
reads-ended (Some all) (Some log) None accesses reads gives = absurd gives
reads-ended (Some all) (Some log) (Some rest) accesses reads gives =
    reads ∙ ap (λ (l : Log). record { accesses = accesses ++ l.accesses; fault = l.fault }) (gives.0 ∙ sym gives.1)

pub reads-none : (log : Option Log) → Reads log [] log
reads-none None = tt
reads-none (Some log) = refl

pub same-none : (settings : Settings) (before : List Access) (log : Option Log) → SameTaken settings before log before log
same-none settings before None = tt
same-none settings before (Some log) = refl
