-- The exit statuses of an import.
use Rattle.std.specs.Prelude.{ℕ}
use Rattle.vm_import.specs.declared.outcome.ImportError.{ImportError}
use Rattle.vm_import.specs.declared.outcome.ImportError.TheVariants.{Line, Untouched, Read, Write, Memory}

-- the status of an import that gave no guest
abbrev pub status_of : ImportError → ℕ
status_of (Line number fault) = 1
status_of (Untouched imported) = 1
status_of Read = 3
status_of Write = 3
status_of Memory = 3
