use Rattle.std.proofs.Common.{◌≡◌, ℕ, ◌<◌, get_or}
use Rattle.std.specs.Prelude.{None}
use Rattle.vm_pool.specs.declared.slot.Slot.TheVariants.{Away}
use Rattle.vm_pool.specs.Slots.{guest_in}
use Rattle.vm_pool.proofs.round.has_guests.Given as goal

abbrev pub invariant-loop-slot : goal.invariant-loop-slot
invariant-loop-slot l = (k : ℕ) → k < l.slot-index → guest_in (get_or l.slots k Away) ≡ None
