-- What is written of a host log, and what the exit statuses 1 and 3 say of the reader and the writer.
use Rattle.std.specs.Prelude.{◌≡◌, ◌⊎◌, ℕ, Bool, List, IfSome, Option, Err}
use Rattle.std.specs.Io.KnownBytes.{Keeps}
use Rattle.vm_programs.specs.declared.vmsteer.output.Output.{Output}
use Rattle.vm_programs.specs.declared.vmsteer.output.Output.TheVariants.{Drawing, Samples}
use Rattle.vm_programs.specs.vmsteer.Statuses.{status_of}
use Rattle.vm_samples.specs.declared.fault.PolicyFault.{PolicyFault}
use Rattle.vm_steer.specs.declared.steer_error.SteerError.{SteerError}
use Rattle.vm_steer.specs.Streams.{Fails, Steers, policy_in}
use Rattle.vm_steer_charts.specs.Draws.{Draws, FailsToDraw}

-- the policy of the log is refused
abbrev pub IsRefused : (read_old : Option (List ℕ)) → Type 0
IsRefused read_old = IfSome read_old (λ bytes. (fault : PolicyFault) × (policy_in bytes ≡ Err fault))

-- the log was read to its end, and what is asked for of it was written, and nothing else
abbrev pub Writes : Output → (read_old written_old written_new : Option (List ℕ)) → Type 0
Writes (Samples form) = Steers form
Writes Drawing = Draws

-- why it was not, and what was written by then
abbrev pub FailsToWrite : Output → (read_old written_old written_new : Option (List ℕ)) → (read_failed write_failed : Bool)
    → SteerError → Type 0
FailsToWrite (Samples form) = Fails form
FailsToWrite Drawing = FailsToDraw

-- the same for a cause of status 3; or nothing was written
abbrev pub StopsEarly : Output → (read_old written_old written_new : Option (List ℕ)) → (read_failed write_failed : Bool) → Type 0
StopsEarly output read_old written_old written_new read_failed write_failed =
    ((error : SteerError) × (status_of error ≡ 3)
    × FailsToWrite output read_old written_old written_new read_failed write_failed error)
    ⊎ Keeps written_old written_new
