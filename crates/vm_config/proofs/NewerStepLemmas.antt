-- What a text of steps means in version 2 it means in version 3.
use Rattle.std.proofs.Common.{◌≡◌, ℕ, ◌≤◌, List, [], length, Bool, true, false, Result, Ok, Err, inl, inr, refl, ap, ◌∙◌, arith}
use Rattle.std.proofs.lemmas.Bool.{false≢true}
use Rattle.vm_trace.specs.declared.error.TraceError.{TraceError}
use Rattle.vm_trace.specs.declared.limits.StepLimits.{StepLimits}
use Rattle.vm_trace.specs.declared.step.Step.{Step}
use Rattle.vm_trace.specs.declared.step.Action.TheVariants.{Read, Write, Touch, Free, Idle, Yield, Post, Actual}
use Rattle.vm_trace.specs.Meaning.{steps_within}
use Rattle.vm_trace.specs.Sized.{steps_in, steps_with, within_pages}
use Rattle.vm_trace.specs.Spelling.{AreSpelled, IsOfVersion}
use Rattle.vm_trace.specs.Versions.{before_3}
use Rattle.vm_trace.specs.Words.{◌>>=◌}
use Rattle.vm_trace.proofs.ReadIsSpelled.{spelled-steps_within}
use Rattle.vm_trace.proofs.SpelledIsRead.{steps_within-spelled}

abbrev newest : StepLimits
newest = record { pages = 262144; version_3 = true }

more-then : {A B : Type 0} (old new : Result A TraceError) (next : A → Result B TraceError) → ((x : A) → old ≡ Ok x → new ≡ Ok x)
    → (y : B) → (old >>= next) ≡ Ok y → (new >>= next) ≡ Ok y
more-then (Ok x) new next more y is = ap (λ r. r >>= next) (more x refl) ∙ is
more-then (Err e) new next more y is = absurd (cc)

version-newer : (step : Step) → IsOfVersion (before_3 262144) step → IsOfVersion newest step
version-newer (Read page offset len) is = tt
version-newer (Write page offset bytes) is = tt
version-newer (Touch page) is = tt
version-newer (Free page) is = tt
version-newer Idle is = tt
version-newer Yield is = refl
version-newer (Post queue bytes) is = omega (arith, is)
version-newer (Actual pages) is = absurd (false≢true is.0)

spelled-newer : (text : List ℕ) (steps : List Step) → AreSpelled (before_3 262144) text steps → AreSpelled newest text steps
spelled-newer text steps (inl (step, spelled, is)) =
    inl (step, record { words = spelled.words; page = spelled.page; bytes = spelled.bytes; version = version-newer step spelled.version }, is)
spelled-newer text steps (inr (inl (page, count, counted, is))) = absurd (false≢true counted.version)
spelled-newer text steps (inr (inr (page, count, counted, is))) = absurd (false≢true counted.version)

within-newer : (text : List ℕ) (steps : List Step) → steps_within (before_3 262144) text ≡ Ok steps → steps_within newest text ≡ Ok steps
within-newer text steps read =
    steps_within-spelled newest text steps (spelled-newer text steps (spelled-steps_within (before_3 262144) text steps (omega arith) read))

in-newer : (size : ℕ) (text : List ℕ) (steps : List Step) → steps_in (before_3 262144) size text ≡ Ok steps → steps_in newest size text ≡ Ok steps
in-newer size text steps read =
    more-then (steps_within (before_3 262144) text) (steps_within newest text) (within_pages size) (within-newer text) steps read

pub with-newer : (size : ℕ) (text : List ℕ) (done steps : List Step) → steps_with (before_3 262144) size text done ≡ Ok steps
    → steps_with newest size text done ≡ Ok steps
with-newer size text done steps read =
    more-then (steps_in (before_3 262144) size text) (steps_in newest size text) _ (in-newer size text) steps read
