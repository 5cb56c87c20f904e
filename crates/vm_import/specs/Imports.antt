-- What comes of a log: of the source and the sink it names the bytes before and after, where they are known.
use Rattle.std.specs.Prelude.{◌≡◌, ◌⊎◌, ℕ, ◌≤◌, ◌^◌, List, length, take, drop, Bool, true, Option, Ok, Err, IfSome}
use Rattle.std.specs.Io.KnownBytes.{Appends, Keeps}
use Rattle.vm_import.specs.declared.access.Access.{Access}
use Rattle.vm_import.specs.Logs.{log_of}
use Rattle.vm_streams.specs.Streams.{AppendsFront}
use Rattle.vm_import.specs.Guests.{Guest, guest_of}
use Rattle.vm_import.specs.Intervals.{intervals_of}
use Rattle.vm_import.specs.Settings.{Settings}
use Rattle.vm_import.specs.Taking.{taken_of}
use Rattle.vm_import.specs.Texts.{text_of}
use Rattle.vm_import.specs.declared.outcome.ImportError.{ImportError}
use Rattle.vm_import.specs.declared.outcome.ImportError.TheVariants.{Line, Untouched, Read, Write, Memory}
use Rattle.vm_import.specs.declared.outcome.Imported.{Imported}

-- the log is taken as far as is told, and P holds of the guest that it makes
abbrev pub Takes : Settings → Imported → (Guest → Type 0) → List ℕ → Type 0
Takes settings imported P bytes = (accesses : List Access)
    × (taken_of settings (log_of bytes) ≡ Ok (record { accesses = accesses; limit = imported.limit }))
    × (imported.intervals ≡ length (intervals_of settings.interval accesses))
    × P (guest_of settings accesses)

module _ (settings : Settings) (read_old written_old written_new : Option (List ℕ)) where
  -- the log makes a guest, whose text was written, and nothing else
  abbrev pub WritesGuest : Imported → Type 0
  WritesGuest imported = IfSome read_old (Takes settings imported
      (λ guest. (1 ≤ guest.size) × Appends written_old written_new (text_of settings guest)))

  -- a front was written of the text that a front of the log's accesses makes, and nothing else
  abbrev pub WritesFront : Type 0
  WritesFront = IfSome read_old (λ bytes. (count : ℕ) × AppendsFront written_old written_new
      (text_of settings (guest_of settings (take count (drop settings.skip (log_of bytes).accesses)))))

  -- what was written by then, and the cause, but for `Memory`, which has none
  abbrev pub Fails : (read_failed write_failed : Bool) → ImportError → Type 0
  Fails read_failed write_failed (Line number fault) =
      WritesFront × IfSome read_old (λ bytes. taken_of settings (log_of bytes) ≡ Err (record { number = number; fault = fault }))
  Fails read_failed write_failed (Untouched imported) =
      IfSome read_old (λ bytes. Keeps written_old written_new × Takes settings imported (λ guest. guest.size ≡ 0) bytes)
  Fails read_failed write_failed Read =
      WritesFront × ((read_failed ≡ true) ⊎ IfSome read_old (λ bytes. 2 ^ 64 ≤ length bytes))
  Fails read_failed write_failed Write = WritesFront × (write_failed ≡ true)
  Fails read_failed write_failed Memory = WritesFront
