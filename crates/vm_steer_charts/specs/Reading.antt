-- How a host log is read to its end: for private contracts alone.
use Rattle.std.specs.Prelude.{◌≡◌, ◌⊎◌, ℕ, ◌+◌, ◌-◌, ◌≤◌, ◌^◌, ⊤, Bool, true, List, ◌++◌, is_ok, is_some, length, IfSome, Option, Some, None, Err}
use Rattle.vm_drawing.specs.Picture.{svg_of}
use Rattle.vm_samples.specs.Blocks.{blocks_of}
use Rattle.vm_samples.specs.LogSteps.{IsTooLong}
use Rattle.vm_steer.specs.declared.steer_error.SteerError.{SteerError}
use Rattle.vm_steer.specs.declared.steer_error.SteerError.TheVariants.{Policy, Read, TooLong, Write, Memory}
use Rattle.vm_steer.specs.Entries.{ToldView}
use Rattle.vm_steer.specs.Steering.{SteeringView}
use Rattle.vm_steer.specs.Streams.{long_in, policy_in, samples_of}
use Rattle.vm_steer_charts.specs.Charts.{drawing_from}
use Rattle.vm_steer_charts.specs.Draws.{svg_in, IsLong}
use Rattle.vm_steer_charts.specs.Rows.{told_in}
use Rattle.vm_steer_charts.specs.Series.{SeriesView, Shows}

-- ---- one block

-- why the next block isn't taken
abbrev pub FailsAt : (left_old : Option (List ℕ)) → (read_failed : Bool) → SteerError → Type 0
FailsAt left_old read_failed (Policy fault) = ⊥
FailsAt left_old read_failed Read = read_failed ≡ true
FailsAt left_old read_failed TooLong = IfSome left_old IsTooLong
FailsAt left_old read_failed Write = ⊥
FailsAt left_old read_failed Memory = ⊤

-- ---- all blocks behind the policy

-- so many blocks in front of the rest were taken as samples, from a state on
pub record AreTaken (count : ℕ) (from : SteeringView) (now : SeriesView) (all rest : List ℕ) : Type 0 where
  pub told : List ToldView
  pub whole : told_in from (samples_of (blocks_of all)) ≡ told ++ told_in now.steering (samples_of (blocks_of rest))
  pub shown : Shows told now
  pub policy : now.steering.policy ≡ from.policy
  pub long : is_some (long_in all) ≡ is_some (long_in rest)
  pub many : length (blocks_of all) ≡ count + length (blocks_of rest)

module _ (count : ℕ) (from : SteeringView) (now : SeriesView) where
  -- the same, where these bytes are known
  abbrev pub AreTakenOf : (all rest : Option (List ℕ)) → Type 0
  AreTakenOf None rest = ⊤
  AreTakenOf (Some all) None = ⊥
  AreTakenOf (Some all) (Some rest) = AreTaken count from now all rest

-- all blocks are samples, and the series shows them
pub record AllTaken (from : SteeringView) (now : SeriesView) (all : List ℕ) : Type 0 where
  pub short : long_in all ≡ None
  pub policy : now.steering.policy ≡ from.policy
  pub shown : Shows (told_in from (samples_of (blocks_of all))) now

-- a part is too long, or there are too many behind the policy
abbrev pub IsLongBehind : List ℕ → Type 0
IsLongBehind bytes = (is_some (long_in bytes) ≡ true) ⊎ (2 ^ 64 - 1 ≤ length (blocks_of bytes))

-- why not all of them are taken
abbrev pub FailsToTake : (left_old : Option (List ℕ)) → (read_failed : Bool) → SteerError → Type 0
FailsToTake left_old read_failed (Policy fault) = ⊥
FailsToTake left_old read_failed Read = read_failed ≡ true
FailsToTake left_old read_failed TooLong = IfSome left_old IsLongBehind
FailsToTake left_old read_failed Write = ⊥
FailsToTake left_old read_failed Memory = ⊤

-- ---- a whole log

-- the policy isn't refused, no part is too long, and the drawing of the series is that of the log
pub record IsSeen (bytes : List ℕ) (s : SeriesView) : Type 0 where
  pub fine : is_ok (policy_in bytes) ≡ true
  pub short : long_in bytes ≡ None
  pub drawn : svg_in bytes ≡ svg_of (drawing_from s.steering.policy s.first s.rows)

-- why a log isn't read to its end
abbrev pub FailsToRead : (read_old : Option (List ℕ)) → (read_failed : Bool) → SteerError → Type 0
FailsToRead read_old read_failed (Policy fault) = IfSome read_old (λ bytes. policy_in bytes ≡ Err fault)
FailsToRead read_old read_failed Read = read_failed ≡ true
FailsToRead read_old read_failed TooLong = IfSome read_old IsLong
FailsToRead read_old read_failed Write = ⊥
FailsToRead read_old read_failed Memory = ⊤
