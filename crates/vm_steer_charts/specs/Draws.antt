-- What is drawn of a host log, a stream of bytes.
use Rattle.std.specs.Prelude.{◌≡◌, ◌⊎◌, ℕ, ◌≤◌, ◌^◌, Bool, true, List, [], is_ok, is_some, length, IfSome, Option, None, Result, Ok, Err}
use Rattle.std.specs.Io.KnownBytes.{Appends, Keeps}
use Rattle.vm_drawing.specs.Picture.{svg_of}
use Rattle.vm_samples.specs.declared.fault.PolicyFault.{PolicyFault}
use Rattle.vm_samples.specs.declared.sample.BadSample.{BadSample}
use Rattle.vm_samples.specs.Blocks.{blocks_of}
use Rattle.vm_samples.specs.Policies.{PolicyView}
use Rattle.vm_samples.specs.Samples.{DomainView}
use Rattle.vm_steer.specs.declared.steer_error.SteerError.{SteerError}
use Rattle.vm_steer.specs.declared.steer_error.SteerError.TheVariants.{Policy, Read, TooLong, Write, Memory}
use Rattle.vm_steer.specs.Steering.{begun}
use Rattle.vm_steer.specs.Streams.{long_in, policy_in, samples_in}
use Rattle.vm_steer_charts.specs.Charts.{drawing_of}
use Rattle.vm_steer_charts.specs.Rows.{told_in}
use Rattle.vm_streams.specs.Streams.{AppendsFront}

-- the drawing of samples under a policy; of one that is refused there is none
abbrev pub svg_by : Result PolicyView PolicyFault → List (Result (List DomainView) BadSample) → List ℕ
svg_by (Err fault) samples = []
svg_by (Ok policy) samples = svg_of (drawing_of policy (told_in (begun policy) samples))

-- the drawing of a log
abbrev pub svg_in : List ℕ → List ℕ
svg_in bytes = svg_by (policy_in bytes) (samples_in bytes)

-- a part is too long, or there are too many
abbrev pub IsLong : List ℕ → Type 0
IsLong bytes = (is_some (long_in bytes) ≡ true) ⊎ (2 ^ 64 ≤ length (blocks_of bytes))

-- ---- what comes of it: of the source and the sink it names the bytes before and after, where they are known

module _ (read_old written_old written_new : Option (List ℕ)) where
  -- the policy isn't refused, no part is too long, and the drawing was written and nothing else
  abbrev pub Draws : Type 0
  Draws = IfSome read_old (λ bytes.
      (is_ok (policy_in bytes) ≡ true) × (long_in bytes ≡ None) × Appends written_old written_new (svg_in bytes))

  -- The cause of each error but `Memory`, which has none. Nothing was written by then but, where the write failed, a front of the
  -- drawing.
  abbrev pub FailsToDraw : (read_failed write_failed : Bool) → SteerError → Type 0
  FailsToDraw read_failed write_failed (Policy fault) =
      Keeps written_old written_new × IfSome read_old (λ bytes. policy_in bytes ≡ Err fault)
  FailsToDraw read_failed write_failed Read = Keeps written_old written_new × (read_failed ≡ true)
  FailsToDraw read_failed write_failed TooLong = Keeps written_old written_new × IfSome read_old IsLong
  FailsToDraw read_failed write_failed Write =
      IfSome read_old (λ bytes. AppendsFront written_old written_new (svg_in bytes)) × (write_failed ≡ true)
  FailsToDraw read_failed write_failed Memory = Keeps written_old written_new
