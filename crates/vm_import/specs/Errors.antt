-- Why no guest is made of a log.
use Rattle.vm_import.specs.declared.faults.LogError.{LogError}
use Rattle.vm_import.specs.declared.faults.LogError.TheVariants as log
use Rattle.vm_import.specs.declared.outcome.ImportError.{ImportError}
use Rattle.vm_import.specs.declared.outcome.ImportError.TheVariants.{Line, Read}

-- why, where the log is read no further
abbrev pub error_of : LogError → ImportError
error_of (log.Line number fault) = Line number fault
error_of log.Read = Read
error_of log.TooLong = Read
