-- What a line's reading says where it stops, and how its bytes are counted.
use Rattle.std.proofs.Common.{◌≡◌, ℕ, ◌+◌, ◌<◌, ◌≤◌, ◌^◌, ◌⊎◌, inl, inr, Bool, List, length, Option, Some, None, IfSome, Result, Ok, Err, IsErrAnd, ap, ◌∙◌, subst, arith}
use Rattle.vm_import.specs.declared.access.Access.{Access}
use Rattle.vm_import.specs.declared.faults.LineFault.{LineFault}
use Rattle.vm_import.specs.declared.faults.LogError.{LogError}
use Rattle.vm_import.specs.declared.faults.LogError.TheVariants.{Line, Read, TooLong}
use Rattle.vm_import.specs.declared.step.Step.{Step}
use Rattle.vm_import.specs.declared.step.Step.TheVariants.{Ended, Found, Passed}
use Rattle.vm_import.specs.BlockSteps.{IsCounted}
use Rattle.vm_import.specs.Reading.{Place, Stays, length_in_all}
use Rattle.vm_import.specs.Waiting.{IsOfSource, all_of}
use Rattle.vm_import.proofs.BlockStepLemmas.{at}

-- ---- an error that is passed on

-- it is the one of the call
pub same_error : {A B : Type 0} (result : Result A LogError) (error other : LogError) → IsErrAnd result (λ e. e ≡ error)
    → result ≡ Err other → ◌≡◌ {A = Result B LogError} (Err error) (Err other)
same_error (Ok x) error other is same = absurd is
same_error (Err e) error other is same = let inner : error ≡ other = cc in ap Err inner

pub no_value : {A : Type 0} (result : Result A LogError) (error : LogError) (x : A) → IsErrAnd result (λ e. e ≡ error) → result ≡ Ok x → ⊥
no_value (Ok y) error x is same = is
no_value (Err e) error x is same = cc

-- an error of the source is of no line
pub no_line : {A : Type 0} (result : Result A LogError) (error : LogError) → IsErrAnd result (λ e. e ≡ error) → IsOfSource error
    → (number : ℕ) (fault : LineFault) → result ≡ Err (Line number fault) → ⊥
no_line (Ok x) error is of_source number fault same = is
no_line (Err e) (Line other of_line) is of_source number fault same = of_source
no_line (Err e) Read is of_source number fault same = cc
no_line (Err e) TooLong is of_source number fault same = cc

pub failed_or_stays : {A B : Type 0} (P : Type 0) (result : Result A LogError) (error : LogError) → IsErrAnd result (λ e. e ≡ error)
    → (◌≡◌ {A = Result B LogError} (Err error) (Err Read)) ⊎ P → (result ≡ Err Read) ⊎ P
failed_or_stays P result error is (inr stays) = inr stays
failed_or_stays P (Ok x) error is (inl same) = absurd is
failed_or_stays P (Err e) error is (inl same) = let inner : e ≡ Read = cc in inl (ap Err inner)

-- the source is as it was before an earlier call
pub stays_then : {P : Type 0} (last next first : Bool) → P ⊎ (last ≡ next) → next ≡ first → P ⊎ (last ≡ first)
stays_then last next first (inl failed) same = inl failed
stays_then last next first (inr stays) same = inr (stays ∙ same)

pub line_is_not : {A : Type 0} (number : ℕ) (fault : LineFault) (other : LogError) → IsOfSource other
    → ◌≡◌ {A = Result A LogError} (Err (Line number fault)) (Err other) → ⊥
line_is_not number fault (Line n f) of_source same = of_source
line_is_not number fault Read of_source same = cc
line_is_not number fault TooLong of_source same = cc

pub err_no_value : {A : Type 0} (error : LogError) (x : A) → ◌≡◌ {A = Result A LogError} (Err error) (Ok x) → ⊥
err_no_value error x same = cc

-- ---- no error

pub no_error : {A : Type 0} (x : A) (error : LogError) → Ok x ≡ Err error → ⊥
no_error x error same = cc

pub kept_so : {B : Type 0} (P : Type 0) (y : B) → (◌≡◌ {A = Result B LogError} (Ok y) (Err Read)) ⊎ P → P
kept_so P y (inr stays) = stays
kept_so P y (inl same) = absurd (no_error y Read same)

pub ended_found : (access : Access) → ◌≡◌ {A = Result Step LogError} (Ok Ended) (Ok (Found access)) → ⊥
ended_found access same = cc

pub ended_passed : Ended ≡ Passed → ⊥
ended_passed same = cc

-- ---- how many bytes there are

pub lines_small : (kept : List ℕ) (taken lines : ℕ) → IsCounted kept taken lines → lines < 2 ^ 64
lines_small kept taken lines is = omega arith

pub counted_filled : (old new : List ℕ) (before after lines : ℕ) → IsCounted old before lines
    → after + length old ≡ before + length new → (before < 2 ^ 64 → after < 2 ^ 64) → IsCounted new after lines
counted_filled old new before after lines is counted small = let below = small is.small in record { counted = omega arith; small = below }

pub counted_used : (old new : List ℕ) (before after lines : ℕ) → IsCounted old before lines
    → before + length new ≤ after + length old → after < 2 ^ 64 → IsCounted new after lines
counted_used old new before after lines is counted small = record { counted = omega arith; small = small }

pub counted_next : (old new : List ℕ) (before after lines : ℕ) → IsCounted old before lines
    → before + length new < after + length old → after < 2 ^ 64 → IsCounted new after (lines + 1)
counted_next old new before after lines is counted small = record { counted = omega arith; small = small }

pub long_at : (place : Place) (kept : List ℕ) (taken lines : ℕ) (process remaining : Option (List ℕ)) → at kept taken lines process ≡ place
    → IfSome (all_of taken remaining) (λ all. 2 ^ 64 ≤ all) → IfSome (length_in_all place remaining) (λ length. 2 ^ 64 ≤ length)
long_at place kept taken lines process remaining is long =
    subst (λ (p : Place). IfSome (length_in_all p remaining) (λ length. 2 ^ 64 ≤ length)) is long

pub length_at : (place new : Place) (kept : List ℕ) (taken lines : ℕ) (process before after : Option (List ℕ)) → at kept taken lines process ≡ place
    → Stays (all_of taken before) (all_of new.taken after) → Stays (length_in_all place before) (length_in_all new after)
length_at place new kept taken lines process before after is stays =
    subst (λ (p : Place). Stays (length_in_all p before) (length_in_all new after)) is stays

-- what is taken in all, where more of it is yet to come behind a part
pub long_then : (first next : Option ℕ) → Stays first next → IfSome next (λ all. 2 ^ 64 ≤ all) → IfSome first (λ all. 2 ^ 64 ≤ all)
long_then None next stays long = tt
long_then (Some n) None stays long = absurd stays
long_then (Some n) (Some m) stays long = subst (λ (k : ℕ). 2 ^ 64 ≤ k) stays long
