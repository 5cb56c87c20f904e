-- Errors that are passed on, and what is written by then.
use Rattle.std.proofs.Common.{◌≡◌, ◌∙◌, ◌⊎◌, inl, inr, ℕ, Bool, true, Option, Some, None, List, Result, Ok, Err, IfErr, IfSome, IsErrAnd, refl, sym, ap, subst}
use Rattle.std.proofs.lemmas.Bool.{false≢true}
use Rattle.std.specs.Io.KnownBytes.{Appends, Keeps}
use Rattle.vm_drawing.specs.Picture.{svg_of}
use Rattle.vm_steer.specs.declared.steer_error.SteerError.{SteerError}
use Rattle.vm_steer.specs.declared.steer_error.SteerError.TheVariants.{Policy, Read, TooLong, Write, Memory}
use Rattle.vm_steer_charts.specs.Charts.{drawing_from}
use Rattle.vm_steer_charts.specs.Draws.{svg_in, Draws, FailsToDraw}
use Rattle.vm_steer_charts.specs.Reading.{FailsToRead, IsSeen}
use Rattle.vm_steer_charts.specs.Series.{SeriesView}
use Rattle.vm_streams.specs.Streams.{AppendsFront, NewlyFailed}

-- an error is passed on
pub passed_on : {T : Type 0} (result : Result T SteerError) (error : SteerError) (P : SteerError → Type 0) → P error → IsErrAnd result (λ e. e ≡ error) → IfErr result P
passed_on (Ok x) error P holds same = absurd same
passed_on (Err e) error P holds same = subst P (sym same) holds

keeps_same : (bytes : Option (List ℕ)) → Keeps bytes bytes
keeps_same None = tt
keeps_same (Some bytes) = refl

-- where the log wasn't read nothing was written
pub fails_unread : (read written : Option (List ℕ)) (read_failed write_failed : Bool) (error : SteerError) → FailsToRead read read_failed error
    → FailsToDraw read written written read_failed write_failed error
fails_unread read written read_failed write_failed (Policy fault) fails = (keeps_same written, fails)
fails_unread read written read_failed write_failed Read fails = (keeps_same written, fails)
fails_unread read written read_failed write_failed TooLong fails = (keeps_same written, fails)
fails_unread read written read_failed write_failed Write fails = absurd fails
fails_unread read written read_failed write_failed Memory fails = keeps_same written

-- want of memory
pub fails_memory : (read written : Option (List ℕ)) (read_failed write_failed : Bool) (error : SteerError) → error ≡ Memory
    → FailsToDraw read written written read_failed write_failed error
fails_memory read written read_failed write_failed error is = subst (FailsToDraw read written written read_failed write_failed) (sym is) (keeps_same written)

module _ (s : SeriesView) (text : List ℕ) (is : text ≡ svg_of (drawing_from s.steering.policy s.first s.rows)) where
  -- the text is the drawing of the log
  drawing_is : (bytes : List ℕ) → IsSeen bytes s → text ≡ svg_in bytes
  drawing_is bytes seen = is ∙ sym seen.drawn

  pub draws_text : (read old new : Option (List ℕ)) → IfSome read (λ bytes. IsSeen bytes s) → Appends old new text → Draws read old new
  draws_text None old new seen written = tt
  draws_text (Some bytes) old new seen written =
      (seen.fine, seen.short, subst (λ (l : List ℕ). Appends old new l) (drawing_is bytes seen) written)

  front_of : (read old new : Option (List ℕ)) → IfSome read (λ bytes. IsSeen bytes s) → AppendsFront old new text → IfSome read (λ bytes. AppendsFront old new (svg_in bytes))
  front_of None old new seen written = tt
  front_of (Some bytes) old new seen written = subst (λ (l : List ℕ). AppendsFront old new l) (drawing_is bytes seen) written

  pub fails_write : (read old new : Option (List ℕ)) (read_failed write_failed : Bool) (error : SteerError) → error ≡ Write → IfSome read (λ bytes. IsSeen bytes s)
      → AppendsFront old new text → write_failed ≡ true → FailsToDraw read old new read_failed write_failed error
  fails_write read old new read_failed write_failed error same seen written failed =
      subst (FailsToDraw read old new read_failed write_failed) (sym same) (front_of read old new seen written, failed)

-- ---- a reader or a writer that fails

not_newly : (old new : Bool) → new ≡ old → NewlyFailed old new → ⊥
not_newly old new same newly = false≢true (sym newly.0 ∙ sym same ∙ newly.1)

-- what wasn't used has not failed
pub unused : {P : Type 0} (bool : Bool) → NewlyFailed bool bool → P
unused bool newly = absurd (not_newly bool bool refl newly)

pub unfailed : {P : Type 0} (old new : Bool) → new ≡ old → NewlyFailed old new → P
unfailed old new same newly = absurd (not_newly old new same newly)

-- a failed read is told
pub told_read : {A B : Type 0} (result : Result A SteerError) (error : SteerError) (old new : Bool) → IsErrAnd result (λ e. e ≡ error)
    → (◌≡◌ {A = Result B SteerError} (Err error) (Err Read)) ⊎ (new ≡ old) → NewlyFailed old new → result ≡ Err Read
told_read result error old new is (inr stays) newly = absurd (not_newly old new stays newly)
told_read (Ok x) error old new is (inl same) newly = absurd is
told_read (Err e) error old new is (inl same) newly = let inner : error ≡ Read = cc in ap Err (is ∙ inner)

-- a call that gave an answer left it as it was
pub kept_by : {A : Type 0} (found : A) (old new : Bool) → (◌≡◌ {A = Result A SteerError} (Ok found) (Err Read)) ⊎ (new ≡ old) → new ≡ old
kept_by found old new (inr stays) = stays
kept_by found old new (inl same) = absurd (cc)
