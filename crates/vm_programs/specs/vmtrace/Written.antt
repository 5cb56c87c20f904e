-- What the exit statuses of an import say of its reader and its writer.
use Rattle.std.specs.Prelude.{◌≡◌, ℕ, List, Option, Bool}
use Rattle.clap.specs.Words.{Text}
use Rattle.vm_import.specs.Imports.{Fails, WritesFront, WritesGuest}
use Rattle.vm_import.specs.Settings.{Settings}
use Rattle.vm_import.specs.declared.outcome.ImportError.{ImportError}
use Rattle.vm_import.specs.declared.outcome.Imported.{Imported}
use Rattle.vm_programs.specs.vmtrace.CommandLine.{rows_of, settings_in}
use Rattle.vm_programs.specs.vmtrace.Statuses.{status_of}

-- what words ask for, of which the first is the program's name
abbrev pub settings_by : List Text → Settings
settings_by words = settings_in (rows_of words)

module _ (settings : Settings) (read_old written_old written_new : Option (List ℕ)) where
  -- the log makes a guest, whose text was written, and nothing else
  abbrev pub IsWritten : Type 0
  IsWritten = (imported : Imported) × WritesGuest settings read_old written_old written_new imported

  -- The log is refused, for a line or since it touches no page, and at most a front of a text was written.
  abbrev pub IsRefused : (read_failed write_failed : Bool) → Type 0
  IsRefused read_failed write_failed = (error : ImportError) × (status_of error ≡ 1)
      × Fails settings read_old written_old written_new read_failed write_failed error

  -- at most a front of a text was written
  abbrev pub IsStopped : Type 0
  IsStopped = WritesFront settings read_old written_old written_new
