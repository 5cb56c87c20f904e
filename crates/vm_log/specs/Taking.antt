-- How many samples are taken: as long as the text with them is one.
use Rattle.std.specs.Prelude.{ℕ, ◌+◌, ◌-◌, ◌*◌, ◌/◌, ◌%◌, ◌==◌, List, [], ◌∷◌, ◌++◌, length, take, Option, Some, None, Result, Ok, Err, if◌then◌else◌}
use Rattle.vm_recorded.specs.declared.limit.Limit.{Limit}
use Rattle.vm_recorded.specs.Limits.{limit_of, limit_with_bytes}
use Rattle.vm_samples.specs.declared.sample.BadSample.{BadSample}
use Rattle.vm_samples.specs.Policies.{PolicyView}
use Rattle.vm_samples.specs.Samples.{DomainView}
use Rattle.vm_steer.specs.Entries.{EntryView}
use Rattle.vm_steer.specs.Steering.{SteeringView, begun, steered}
use Rattle.vm_log.specs.HostOf.{host_of}

pub record Taken : Type 0 where
  -- the good samples that are taken
  pub samples : List (List EntryView)
  -- how many bad ones were passed over
  pub bad : ℕ
  -- the limit that would be passed with more, if that ended it
  pub limit : Option Limit

-- those of the epochs in front of that of the last sample
abbrev pub epochs_before : (every : ℕ) → (samples : List (List EntryView)) → List (List EntryView)
epochs_before every samples = take ((length samples - 1) / every * every) samples

-- the limit that is passed with the last sample; that of bytes is judged at the end of each epoch
abbrev pub limit_at : PolicyView → (every : ℕ) → (samples : List (List EntryView)) → Option Limit
limit_at policy every samples =
    if length samples % every == 0 then limit_with_bytes (host_of policy every samples) else limit_of (host_of policy every samples)

-- a limit ends it in front of the epoch in which it is passed
abbrev pub ended_by : (every : ℕ) → Option Limit → (samples : List (List EntryView)) → (bad : ℕ) → (otherwise : Taken) → Taken
ended_by every (Some limit) samples bad otherwise = record { samples = epochs_before every samples; bad = bad; limit = Some limit }
ended_by every None samples bad otherwise = otherwise

-- where these were taken and so many bad ones passed over
abbrev pub taken_from : (every : ℕ) → SteeringView → (before : List (List EntryView)) → (bad : ℕ)
    → List (Result (List DomainView) BadSample) → Taken
taken_from every s before bad [] =
    ended_by every (limit_with_bytes (host_of s.policy every before)) before bad (record { samples = before; bad = bad; limit = None })
taken_from every s before bad (Err fault ∷ samples) = taken_from every s before (bad + 1) samples
taken_from every s before bad (Ok domains ∷ samples) =
    let now = steered s domains in
    let taken = before ++ now.last.domains ∷ [] in
    ended_by every (limit_at s.policy every taken) taken bad (taken_from every now taken bad samples)

abbrev pub taken_of : (every : ℕ) → PolicyView → List (Result (List DomainView) BadSample) → Taken
taken_of every policy samples = taken_from every (begun policy) [] 0 samples
