-- What a guest has at most.
use Rattle.std.specs.Prelude.{ℕ, nat_lt, if◌then◌else◌, length, Option, Some, None}
use Rattle.vm_import.specs.Guests.{Guest, epochs_of}
use Rattle.vm_import.specs.Settings.{Settings}
use Rattle.vm_import.specs.Texts.{text_of}
use Rattle.vm_import.specs.declared.limits.Limit.{Limit}
use Rattle.vm_import.specs.declared.limits.Limit.TheVariants.{Steps, Pages, Epochs, Bytes}

-- the first limit that so many steps, pages and bytes of text pass, if they pass any
abbrev pub limit_passed : Settings → (steps pages bytes : ℕ) → Option Limit
limit_passed settings steps pages bytes =
    if nat_lt settings.steps steps then Some (Steps settings.steps)
    else if nat_lt 262144 pages then Some Pages
    else if nat_lt 10000 (epochs_of settings.quantum steps) then Some Epochs
    else if nat_lt 16777216 bytes then Some Bytes
    else None

-- the first limit that a guest passes
unfoldable pub passed_by : Settings → Guest → Option Limit
passed_by settings guest = limit_passed settings (length guest.trace) guest.size (length (text_of settings guest))
