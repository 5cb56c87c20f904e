-- How a recording follows the samples of a log: for private contracts alone.
use Rattle.std.specs.Prelude.{◌≡◌, ◌⊎◌, ℕ, ◌<◌, ◌≤◌, List, [], ◌∷◌, ◌++◌, length, Option, Some, None}
use Rattle.vm_recorded.specs.declared.limit.Limit.{Limit}
use Rattle.vm_recorded.specs.Limits.{limit_with_bytes}
use Rattle.vm_samples.specs.Policies.{PolicyView}
use Rattle.vm_steer.specs.Entries.{EntryView}
use Rattle.vm_log.specs.declared.recording.Recording.{Recording}
use Rattle.vm_log.specs.Growing.{hosted_in}
use Rattle.vm_log.specs.HostOf.{host_of}
use Rattle.vm_log.specs.Recorded.{IsRecorded}
use Rattle.vm_log.specs.Taking.{epochs_before, limit_at}

-- it is of these samples, and no limit is passed with them
pub record Follows (policy : PolicyView) (every : ℕ) (samples : List (List EntryView)) (r : Recording) : Type 0 where
  pub ended : ℕ
  pub closed : List (List EntryView)
  pub opened : List (List EntryView)
  pub is : samples ≡ closed ++ opened
  pub room : length opened < every
  pub recorded : IsRecorded policy every ended closed opened r
  pub few : r.epochs ≤ 10000
  pub judged : (closed ≡ []) ⊎ (limit_with_bytes (host_of policy every closed) ≡ None)

-- its host is that of these samples, and has a text
pub record IsHostOf (policy : PolicyView) (every : ℕ) (samples : List (List EntryView)) (r : Recording) : Type 0 where
  pub host : hosted_in policy r ≡ host_of policy every samples
  pub few : length r.guests.items ≤ 256

module _ (policy : PolicyView) (every : ℕ) (samples : List (List EntryView)) (r : Recording) where
  -- one sample more is taken, the last of these, or would pass a limit
  abbrev pub IsTakenWith : Option Limit → Type 0
  IsTakenWith None = (limit_at policy every samples ≡ None) × Follows policy every samples r
  IsTakenWith (Some limit) = (limit_at policy every samples ≡ Some limit) × IsHostOf policy every (epochs_before every samples) r

  -- there is no more
  abbrev pub IsEndedWith : Option Limit → Type 0
  IsEndedWith None = (limit_with_bytes (host_of policy every samples) ≡ None) × IsHostOf policy every samples r
  IsEndedWith (Some limit) = (limit_with_bytes (host_of policy every samples) ≡ Some limit) × IsHostOf policy every (epochs_before every samples) r
