-- The guests that are left to be read go on from those that were read to the same answer.
use Rattle.std.proofs.Common.{◌≡◌, ℕ, List, ◌∷◌, map, refl}
use Rattle.vm_json.specs.View.{view}
use Rattle.vm_json.specs.declared.value.Value.{Value}
use Rattle.vm_config.specs.declared.guests.GuestList.{GuestList}
use Rattle.vm_config.specs.declared.version.Limits.{Limits}
use Rattle.vm_config.specs.Named.{Reads}
use Rattle.vm_config.specs.Located.{guest_at, guests_at}

pub next_guest : (limits : Limits) (quantum page : ℕ) (object : Value) (left rest : List Value) (old new : GuestList)
    → left ≡ object ∷ rest → Reads old new (guest_at limits quantum page (view object) old.domains)
    → guests_at limits quantum page (map view left) old ≡ guests_at limits quantum page (map view rest) new
next_guest limits quantum page object left rest old new is reads = rw (is, reads.1, reads.2) refl
