-- A guest by its name, as the code reads it.
use Rattle.std.specs.Prelude.{◌≡◌, Result, Ok, Err}
use Rattle.vm_guest.specs.Config.{IsWithinLimits}
use Rattle.vm_config.specs.declared.guests.GuestList.{GuestList}
use Rattle.vm_config.specs.declared.guests.Named.{Named}
use Rattle.vm_config.specs.declared.fault.Fault.{Fault}
use Rattle.vm_config.specs.Guests.{Listed, with_guest}

abbrev pub listed_of : Named → Listed
listed_of named = record { domain = record { name = named.name.now; config = named.spec }; autostart = named.autostart }

abbrev pub listed_seen : Result Named Fault → Result Listed Fault
listed_seen (Ok named) = Ok (listed_of named)
listed_seen (Err e) = Err e

-- one guest was read, and was added at the end
abbrev pub Reads : GuestList → GuestList → Result Listed Fault → Type 0
Reads old new read = (listed : Listed) × (read ≡ Ok listed) × (new ≡ with_guest old listed) × IsWithinLimits listed.domain.config
