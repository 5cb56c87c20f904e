-- What becomes of the blocks of a log: for private contracts alone.
use Rattle.std.specs.Prelude.{◌≡◌, ◌⊎◌, ℕ, ◌+◌, ◌-◌, ◌≤◌, ◌^◌, ⊤, Bool, true, List, [], ◌∷◌, ◌++◌, length, IfSome, Option, Some, None, Result, Ok, Err}
use Rattle.vm_recorded.specs.declared.limit.Limit.{Limit}
use Rattle.vm_samples.specs.declared.sample.BadSample.{BadSample}
use Rattle.vm_samples.specs.Blocks.{blocks_of}
use Rattle.vm_samples.specs.Samples.{DomainView}
use Rattle.vm_steer.specs.declared.form.Form.TheVariants.{Orders}
use Rattle.vm_steer.specs.Blocks.{AreTakenOf}
use Rattle.vm_steer.specs.Entries.{EntryView}
use Rattle.vm_steer.specs.Names.{AreRising}
use Rattle.vm_steer.specs.Steering.{SteeringView, steered}
use Rattle.vm_steer.specs.Streams.{long_in, samples_of}
use Rattle.vm_log.specs.declared.log_error.PlanError.{PlanError}
use Rattle.vm_log.specs.declared.log_error.PlanError.TheVariants.{Policy, Read, TooLong, Write, Memory}
use Rattle.vm_log.specs.declared.recording.Recording.{Recording}
use Rattle.vm_log.specs.declared.stream.Course.{Course}
use Rattle.vm_log.specs.declared.stream.Step.{Step}
use Rattle.vm_log.specs.declared.stream.Step.TheVariants.{Good, Bad}
use Rattle.vm_log.specs.Following.{Follows, IsEndedWith, IsHostOf, IsTakenWith}
use Rattle.vm_log.specs.Steps.{names_of}
use Rattle.vm_log.specs.Taking.{Taken, taken_from}

-- a block was taken as this sample, where these were taken before
module _ (every : ℕ) (s now : SteeringView) (before : List (List EntryView)) (r : Recording) where
  abbrev pub IsStep : Result (List DomainView) BadSample → Step → Type 0
  IsStep (Ok domains) (Good limit) = (now ≡ steered s domains) × IsTakenWith s.policy every (before ++ (steered s domains).last.domains ∷ []) r limit
  IsStep (Ok domains) Bad = ⊥
  IsStep (Err bad) (Good limit) = ⊥
  IsStep (Err bad) Bad = (now ≡ s) × Follows s.policy every before r

-- what was taken of all blocks
pub record AreTaken (every : ℕ) (taken : Taken) (s : SteeringView) (course : Course) (limit : Option Limit) : Type 0 where
  pub policy : course.steering.policy ≡ s.policy
  pub host : IsHostOf s.policy every taken.samples course.recording
  pub bad : course.bad ≡ taken.bad
  pub limit_is : limit ≡ taken.limit

-- of these bytes, where none was taken before
abbrev pub TakesAll : (every : ℕ) → (old new : Course) → (limit : Option Limit) → List ℕ → Type 0
TakesAll every old new limit bytes = AreTaken every (taken_from every old.steering [] 0 (samples_of (blocks_of bytes))) old.steering new limit

-- it has a text
pub record IsWritable (r : Recording) : Type 0 where
  pub few : length r.guests.items ≤ 256
  pub rising : AreRising (names_of r.guests.items)

-- there is no block
pub record EndsAlone (every : ℕ) (old new : Course) (limit : Option Limit) : Type 0 where
  pub steering : new.steering ≡ old.steering
  pub bad : new.bad ≡ old.bad
  pub ended : IsEndedWith old.steering.policy every [] new.recording limit

-- what is taken of all bytes is what is taken of the rest, where these were taken and so many bad ones passed over
abbrev pub GoesOn : (every : ℕ) → (s now : SteeringView) → (before : List (List EntryView)) → (bad : ℕ) → (all rest : Option (List ℕ)) → Type 0
GoesOn every s now before bad None rest = ⊤
GoesOn every s now before bad (Some all) None = ⊥
GoesOn every s now before bad (Some all) (Some rest) =
    taken_from every s [] 0 (samples_of (blocks_of all)) ≡ taken_from every now before bad (samples_of (blocks_of rest))

-- so many blocks were taken, and these bytes are left
pub record IsOnWay (every count : ℕ) (old : Course) (left_old : Option (List ℕ)) (course : Course) (left_now : Option (List ℕ)) : Type 0 where
  pub before : List (List EntryView)
  pub policy : course.steering.policy ≡ old.steering.policy
  pub follows : Follows course.steering.policy every before course.recording
  pub bad : course.bad ≤ count
  pub blocks : AreTakenOf Orders count old.steering None None course.steering left_old left_now
  pub goes_on : GoesOn every old.steering course.steering before course.bad left_old left_now

-- why not all of them are taken
abbrev pub FailsToTake : (left_old : Option (List ℕ)) → (read_failed : Bool) → PlanError → Type 0
FailsToTake left_old read_failed (Policy fault) = ⊥
FailsToTake left_old read_failed Read = read_failed ≡ true
FailsToTake left_old read_failed TooLong =
    IfSome left_old (λ bytes. ((part : ℕ) × (long_in bytes ≡ Some part)) ⊎ (2 ^ 64 - 1 ≤ length (blocks_of bytes)))
FailsToTake left_old read_failed Write = ⊥
FailsToTake left_old read_failed Memory = ⊤
