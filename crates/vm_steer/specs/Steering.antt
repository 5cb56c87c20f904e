-- The policy at work, sample by sample.
use Rattle.std.specs.Prelude.{List}
use Rattle.vm_samples.specs.Policies.{PolicyView}
use Rattle.vm_samples.specs.Samples.{DomainView}
use Rattle.vm_steer.specs.Entries.{ToldView}
use Rattle.vm_steer.specs.Told.{next_told, nothing_told}

-- a policy, and what was told of the last good sample
pub record SteeringView : Type 0 where
  pub policy : PolicyView
  pub last : ToldView

-- before the first sample
abbrev pub begun : PolicyView → SteeringView
begun policy = record { policy = policy; last = nothing_told policy }

-- after a good sample
abbrev pub steered : SteeringView → List DomainView → SteeringView
steered s domains = record s { last = next_told s.policy s.last domains }
