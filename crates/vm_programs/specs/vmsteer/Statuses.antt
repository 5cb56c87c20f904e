-- The exit statuses of a steered host.
use Rattle.std.specs.Prelude.{ℕ}
use Rattle.vm_steer.specs.declared.steer_error.SteerError.{SteerError}
use Rattle.vm_steer.specs.declared.steer_error.SteerError.TheVariants.{Policy, Read, TooLong, Write, Memory}

-- the status of a log that is not steered by to its end
abbrev pub status_of : SteerError → ℕ
status_of (Policy fault) = 1
status_of Read = 3
status_of TooLong = 3
status_of Write = 3
status_of Memory = 3
