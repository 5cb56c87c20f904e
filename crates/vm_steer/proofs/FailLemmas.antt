-- Why not all of a host log is taken.
use Rattle.std.proofs.Common.{◌≡◌, ◌∙◌, ◌⊎◌, inl, inr, ℕ, Bool, Option, List, Result, Ok, Err, IfErr, IfSome, IsErrAnd, ap, refl, sym, subst}
use Rattle.std.proofs.lemmas.Bool.{false≢true}
use Rattle.vm_samples.specs.declared.host_log.LogError.{LogError}
use Rattle.vm_samples.specs.declared.host_log.LogError.TheVariants as log
use Rattle.vm_steer.specs.declared.form.Form.{Form}
use Rattle.vm_steer.specs.declared.steer_error.SteerError.{SteerError}
use Rattle.vm_steer.specs.declared.steer_error.SteerError.TheVariants.{Policy, Read, TooLong, Write, Memory}
use Rattle.vm_steer.specs.Blocks.{AreTakenOf, FailsAt, FailsToTake, IsLongAt, WritesFirst, WritesSome}
use Rattle.vm_steer.specs.Steering.{SteeringView}
use Rattle.vm_steer.specs.Streams.{error_of_log}
use Rattle.vm_steer.proofs.BlockLemmas.{taken_front, taken_long, taken_some}
use Rattle.vm_streams.specs.Streams.{NewlyFailed}

-- an error is passed on
pub passed_on : {T : Type 0} (result : Result T SteerError) (error : SteerError) (P : SteerError → Type 0) → P error → IsErrAnd result (λ e. e ≡ error) → IfErr result P
passed_on (Ok x) error P holds same = absurd same
passed_on (Err e) error P holds same = subst P (sym same) holds

-- a block that isn't taken ends the taking of all
pub fails_at : (form : Form) (count : ℕ) (s now : SteeringView) (old mid new first rest : Option (List ℕ)) (read_failed write_failed : Bool) (error : SteerError)
    → AreTakenOf form count s old mid now first rest → FailsAt form count now rest mid new read_failed write_failed error
    → FailsToTake form s first old new read_failed write_failed error
fails_at form count s now old mid new first rest read_failed write_failed (Policy fault) taken fails = absurd fails
fails_at form count s now old mid new first rest read_failed write_failed Read taken fails =
    (subst (λ (bytes : Option (List ℕ)). WritesSome form s first old bytes) (sym fails.0) (taken_some form count s now old mid first rest taken), fails.1)
fails_at form count s now old mid new first rest read_failed write_failed TooLong taken fails =
    subst (λ (bytes : Option (List ℕ)). IfSome first (λ all. (n : ℕ) × IsLongAt n all × WritesFirst form s first old bytes n all)) (sym fails.0)
    (taken_long form count s now old mid first rest taken fails.1)
fails_at form count s now old mid new first rest read_failed write_failed Write taken fails = (taken_front form count s now old mid new first rest taken fails.0, fails.1)
fails_at form count s now old mid new first rest read_failed write_failed Memory taken fails =
    subst (λ (bytes : Option (List ℕ)). WritesSome form s first old bytes) (sym fails) (taken_some form count s now old mid first rest taken)

-- ---- a reader or a writer that fails

not_newly : (old new : Bool) → new ≡ old → NewlyFailed old new → ⊥
not_newly old new same newly = false≢true (sym newly.0 ∙ sym same ∙ newly.1)

-- what stays as it was has not failed
pub not_failed : {P : Type 0} (old new : Bool) → new ≡ old → NewlyFailed old new → P
not_failed old new same newly = absurd (not_newly old new same newly)

-- .. as what wasn't used
pub unused : {P : Type 0} (bool : Bool) → NewlyFailed bool bool → P
unused bool newly = absurd (not_newly bool bool refl newly)

-- a call that gave an answer left it as it was
pub kept_by : {A : Type 0} (found : A) (old new : Bool) → (◌≡◌ {A = Result A LogError} (Ok found) (Err log.Read)) ⊎ (new ≡ old) → new ≡ old
kept_by found old new (inr stays) = stays
kept_by found old new (inl same) = absurd (cc)

pub unfailed : {A P : Type 0} (found : A) (old new : Bool) → (◌≡◌ {A = Result A LogError} (Ok found) (Err log.Read)) ⊎ (new ≡ old) → NewlyFailed old new → P
unfailed found old new stays newly = absurd (not_newly old new (kept_by found old new stays) newly)

-- a failed read is told
pub told_read : {A B : Type 0} (result : Result A SteerError) (error : LogError) (old new : Bool) → IsErrAnd result (λ e. e ≡ error_of_log error)
    → (◌≡◌ {A = Result B LogError} (Err error) (Err log.Read)) ⊎ (new ≡ old) → NewlyFailed old new → result ≡ Err Read
told_read result error old new is (inr stays) newly = absurd (not_newly old new stays newly)
told_read (Ok x) error old new is (inl same) newly = absurd is
told_read (Err e) error old new is (inl same) newly = let inner : error ≡ log.Read = cc in ap Err (is ∙ ap error_of_log inner)

-- .. by a later call
pub told_later : {P : Type 0} (first mid last : Bool) → P ⊎ (last ≡ mid) → mid ≡ first → NewlyFailed first last → P
told_later first mid last (inl told) same newly = told
told_later first mid last (inr stays) same newly = absurd (not_newly first last (stays ∙ same) newly)
