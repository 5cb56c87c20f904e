-- What is taken of a log behind accesses is what is taken of it all.
use Rattle.std.proofs.Common.{◌≡◌, ◌∙◌, ℕ, ◌+◌, ◌-◌, ◌≤◌, ◌^◌, inl, inr, Bool, List, [], ◌∷◌, ◌++◌, drop, Option, Some, None, IfSome, Result, refl, sym, ap, subst, arith, append_assoc}
use Rattle.std.proofs.Math.Seq.{drop-nil}
use Rattle.std.proofs.lemmas.List.{drop-drop}
use Rattle.vm_import.specs.declared.access.Access.{Access}
use Rattle.vm_import.specs.declared.faults.LineFault.{LineFault}
use Rattle.vm_import.specs.Logs.{FaultAt, Log, log_of}
use Rattle.vm_import.specs.Reading.{BeginsWithFault, Gives, Stays, beginning, left}
use Rattle.vm_import.specs.Failing.{CantBeRead, FailsBehind, Skips, without}
use Rattle.vm_import.specs.Progress.{Reads, SameTaken, Takes}
use Rattle.vm_import.specs.Settings.{Settings}
use Rattle.vm_import.specs.Taking.{Taken}
use Rattle.vm_import.specs.declared.outcome.ImportError.{ImportError}
use Rattle.vm_import.specs.declared.outcome.ImportError.TheVariants.{Line, Untouched, Read, Write, Memory}

pub Stays-refl : {A : Type 0} (a : Option A) → Stays a a
Stays-refl None = tt
Stays-refl (Some x) = refl

pub Stays-then : {A : Type 0} (a b c : Option A) → Stays a b → Stays b c → Stays a c
Stays-then None b c p q = tt
Stays-then (Some x) None c p q = absurd p
Stays-then (Some x) (Some y) None p q = absurd q
Stays-then (Some x) (Some y) (Some z) p q = q ∙ p

pub cant-then : (first log : Option ℕ) (failed : Bool) → Stays first log → CantBeRead log failed → CantBeRead first failed
cant-then first log failed stays (inl is) = inl is
cant-then None log failed stays (inr long) = inr tt
cant-then (Some n) None failed stays (inr long) = absurd stays
cant-then (Some n) (Some m) failed stays (inr long) = inr (subst (λ (k : ℕ). 2 ^ 64 ≤ k) stays long)

module _ (settings : Settings) where
  pub reads-then : (first log rest : Option Log) (before accesses : List Access) → Reads first before log → Reads log accesses rest
      → Reads first (before ++ accesses) rest
  reads-then None log rest before accesses p q = tt
  reads-then (Some all) None rest before accesses p q = absurd p
  reads-then (Some all) (Some log) None before accesses p q = absurd q
  reads-then (Some all) (Some log) (Some rest) before accesses p q =
      p ∙ ap (λ (l : Log). record { accesses = before ++ l.accesses; fault = l.fault }) q
      ∙ ap (λ (l : List Access). record { accesses = l; fault = rest.fault }) (sym (append_assoc before accesses rest.accesses))

  pub same-then : (first log rest : Option Log) (start before after : List Access) → SameTaken settings start first before log
      → SameTaken settings before log after rest → SameTaken settings start first after rest
  same-then None log rest start before after p q = tt
  same-then (Some all) None rest start before after p q = absurd p
  same-then (Some all) (Some log) None start before after p q = absurd q
  same-then (Some all) (Some log) (Some rest) start before after p q = p ∙ q

  pub takes-then : (first log : Option Log) (start before : List Access) (taken : Result Taken FaultAt)
      → SameTaken settings start first before log → Takes settings before log taken → Takes settings start first taken
  takes-then None log start before taken p q = tt
  takes-then (Some all) None start before taken p q = absurd p
  takes-then (Some all) (Some log) start before taken p q = p ∙ q

  pub fails-then : (first log : Option Log) (start before : List Access) (length_first length_log : Option ℕ) (failed : Bool) (error : ImportError)
      → SameTaken settings start first before log → Stays length_first length_log
      → FailsBehind settings before log length_log failed error → FailsBehind settings start first length_first failed error
  fails-then first log start before length_first length_log failed (Line number fault) same stays fails =
      takes-then first log start before _ same fails
  fails-then first log start before length_first length_log failed (Untouched imported) same stays fails = absurd fails
  fails-then first log start before length_first length_log failed Read same stays fails = cant-then length_first length_log failed stays fails
  fails-then first log start before length_first length_log failed Write same stays fails = absurd fails
  fails-then first log start before length_first length_log failed Memory same stays fails = tt

-- ---- skipping

pub skips-none : (log : Option Log) → Skips 0 log log
skips-none None = tt
skips-none (Some log) = refl

pub skips-more : (count : ℕ) (first log rest : Option Log) (access : Access) → Skips count first log → Gives log rest (Some access)
    → Skips (count + 1) first rest
skips-more count None log rest access skips gives = tt
skips-more count (Some all) None rest access skips gives = absurd skips
skips-more count (Some all) (Some log) None access skips gives = absurd gives
skips-more count (Some all) (Some log) (Some rest) access skips gives =
    let same : record { accesses = access ∷ rest.accesses; fault = rest.fault } ≡ without count all = sym gives ∙ skips in
    ap (λ (l : Log). record l { accesses = drop 1 l.accesses }) same
    ∙ ap (λ (l : List Access). record all { accesses = l }) (drop-drop 1 count all.accesses)

drop-beyond : (count more : ℕ) (xs : List Access) → count ≤ more → drop count xs ≡ [] → drop more xs ≡ []
drop-beyond count more xs few none =
    let same : count + (more - count) ≡ more = omega arith in
    ap (λ (n : ℕ). drop n xs) (sym same) ∙ sym (drop-drop (more - count) count xs) ∙ ap (drop (more - count)) none ∙ drop-nil (more - count)

-- what is left of a log without accesses
beyond : (count more : ℕ) (all : Log) (fault : Option FaultAt) → count ≤ more → record { accesses = []; fault = fault } ≡ without count all
    → without more all ≡ record { accesses = []; fault = fault }
beyond count more all fault few same =
    let none : drop more all.accesses ≡ [] = drop-beyond count more all.accesses few (sym (ap (λ (l : Log). l.accesses) same)) in
    let fault_is : all.fault ≡ fault = sym (ap (λ (l : Log). l.fault) same) in
    λ i. record { accesses = none i; fault = fault_is i }

-- of an empty log any number
pub skips-ended : (count more : ℕ) (first log rest : Option Log) → count ≤ more → Skips count first log → Gives log rest None
    → Skips more first rest
skips-ended count more None log rest few skips gives = tt
skips-ended count more (Some all) None rest few skips gives = absurd skips
skips-ended count more (Some all) (Some log) None few skips gives = absurd gives
skips-ended count more (Some all) (Some log) (Some rest) few skips gives =
    gives.1 ∙ sym (beyond count more all None few (sym gives.0 ∙ skips))

pub skips-fault : (count more : ℕ) (first log : Option Log) (number : ℕ) (fault : LineFault) → count ≤ more → Skips count first log
    → BeginsWithFault log number fault
    → IfSome first (λ all. without more all ≡ record { accesses = []; fault = Some (record { number = number; fault = fault }) })
skips-fault count more None log number fault few skips begins = tt
skips-fault count more (Some all) None number fault few skips begins = absurd skips
skips-fault count more (Some all) (Some log) number fault few skips begins =
    beyond count more all (Some (record { number = number; fault = fault })) few (sym begins ∙ skips)

-- ---- a log from its beginning

pub left-beginning : (bytes : List ℕ) → left beginning (Some bytes) ≡ Some (log_of bytes)
unfolding left
left-beginning bytes = refl
