-- What is written of a host log, and what the exit statuses 1 and 3 say of the reader and the writer.
use Rattle.std.specs.Prelude.{◌≡◌, ◌⊎◌, ℕ, Bool, List, IfSome, Option, Err}
use Rattle.std.specs.Io.KnownBytes.{Keeps}
use Rattle.vm_log.specs.declared.log_error.PlanError.{PlanError}
use Rattle.vm_log.specs.declared.planned.Planned.{Planned}
use Rattle.vm_log.specs.Streams.{Fails, Plans}
use Rattle.vm_programs.specs.vmlog.Statuses.{status_of}
use Rattle.vm_samples.specs.declared.fault.PolicyFault.{PolicyFault}
use Rattle.vm_steer.specs.Streams.{policy_in}

-- the policy of the log is refused
abbrev pub IsRefused : (read_old : Option (List ℕ)) → Type 0
IsRefused read_old = IfSome read_old (λ bytes. (fault : PolicyFault) × (policy_in bytes ≡ Err fault))

module _ (every : ℕ) (read_old written_old written_new : Option (List ℕ)) where
  -- the configuration of the log was written, and nothing else
  abbrev pub IsWritten : Type 0
  IsWritten = (planned : Planned) × Plans every read_old written_old written_new planned

  -- for a cause of status 3 it was not, and what was written by then; or nothing was written
  abbrev pub StopsEarly : (read_failed write_failed : Bool) → Type 0
  StopsEarly read_failed write_failed =
      ((error : PlanError) × (status_of error ≡ 3)
      × Fails every read_old written_old written_new read_failed write_failed error)
      ⊎ Keeps written_old written_new
