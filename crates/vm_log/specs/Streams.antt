-- What comes of a host log, a stream of bytes: of the source and the sink it names the bytes before and after, where they are known.
use Rattle.std.specs.Prelude.{◌≡◌, ◌⊎◌, ℕ, ◌≤◌, ◌^◌, Bool, true, List, length, IfSome, Option, Some, Result, Ok, Err}
use Rattle.std.specs.Io.KnownBytes.{Appends, Keeps}
use Rattle.vm_recorded.specs.Texts.{text_of}
use Rattle.vm_samples.specs.Blocks.{blocks_of}
use Rattle.vm_samples.specs.Policies.{PolicyView}
use Rattle.vm_steer.specs.Streams.{long_in, policy_in, samples_in}
use Rattle.vm_streams.specs.Streams.{AppendsFront}
use Rattle.vm_log.specs.declared.log_error.PlanError.{PlanError}
use Rattle.vm_log.specs.declared.log_error.PlanError.TheVariants.{Policy, Read, TooLong, Write, Memory}
use Rattle.vm_log.specs.declared.planned.Planned.{Planned}
use Rattle.vm_log.specs.Epochs.{epochs_of}
use Rattle.vm_log.specs.HostOf.{host_of}
use Rattle.vm_log.specs.Taking.{Taken, taken_of}

-- what is taken of a log with this policy
abbrev pub taken_in : (every : ℕ) → PolicyView → List ℕ → Taken
taken_in every policy bytes = taken_of every policy (samples_in bytes)

-- the text of a log with this policy
abbrev pub text_in : (every : ℕ) → PolicyView → List ℕ → List ℕ
text_in every policy bytes = text_of (host_of policy every (taken_in every policy bytes).samples)

-- it is told how many epochs the text has, how many bad samples were read, and which limit ended the reading
pub record IsTold (every : ℕ) (taken : Taken) (planned : Planned) : Type 0 where
  pub epochs : planned.epochs ≡ length (epochs_of every taken.samples)
  pub bad : planned.bad ≡ taken.bad
  pub limit : planned.limit ≡ taken.limit

module _ (every : ℕ) (read_old written_old written_new : Option (List ℕ)) where
  -- the text of the log was written, and nothing else
  abbrev pub Plans : Planned → Type 0
  Plans planned = IfSome read_old (λ bytes. (policy : PolicyView) × (policy_in bytes ≡ Ok policy)
      × IsTold every (taken_in every policy bytes) planned
      × Appends written_old written_new (text_in every policy bytes))

  -- the cause of each error but `Memory`, which has none; nothing was written but where the writer failed
  abbrev pub Fails : (read_failed write_failed : Bool) → PlanError → Type 0
  Fails read_failed write_failed (Policy fault) =
      Keeps written_old written_new × IfSome read_old (λ bytes. policy_in bytes ≡ Err fault)
  Fails read_failed write_failed Read = Keeps written_old written_new × (read_failed ≡ true)
  Fails read_failed write_failed TooLong =
      Keeps written_old written_new × IfSome read_old (λ bytes. ((part : ℕ) × (long_in bytes ≡ Some part)) ⊎ (2 ^ 64 ≤ length (blocks_of bytes)))
  Fails read_failed write_failed Write =
      IfSome read_old (λ bytes. (policy : PolicyView) × (policy_in bytes ≡ Ok policy)
      × AppendsFront written_old written_new (text_in every policy bytes)) × (write_failed ≡ true)
  Fails read_failed write_failed Memory = Keeps written_old written_new
