-- What of a recording grows with the domains of a sample: for private contracts alone.
use Rattle.std.specs.Prelude.{◌≡◌, ℕ, length}
use Rattle.vm_recorded.specs.Hosts.{HostView}
use Rattle.vm_samples.specs.Policies.{PolicyView}
use Rattle.vm_log.specs.declared.recording.Recording.{Recording}
use Rattle.vm_log.specs.Steps.{hosted, Growing}

abbrev pub growing_in : Recording → Growing
growing_in r = record { guests = r.guests.items; kept = r.kept.items; beside = r.beside.items }

-- the host that is recorded
abbrev pub hosted_in : PolicyView → Recording → HostView
hosted_in policy r = hosted policy r.epochs r.guests.items r.beside.items
