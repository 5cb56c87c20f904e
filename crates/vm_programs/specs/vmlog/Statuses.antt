-- The exit statuses of a host log that gives no configuration.
use Rattle.std.specs.Prelude.{ℕ}
use Rattle.vm_log.specs.declared.log_error.PlanError.{PlanError}
use Rattle.vm_log.specs.declared.log_error.PlanError.TheVariants.{Policy, Read, TooLong, Write, Memory}

abbrev pub status_of : PlanError → ℕ
status_of (Policy fault) = 1
status_of Read = 3
status_of TooLong = 3
status_of Write = 3
status_of Memory = 3
