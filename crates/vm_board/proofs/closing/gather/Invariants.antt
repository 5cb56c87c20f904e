use Rattle.std.proofs.Common.{◌≡◌, ◌<◌, ◌≤◌, ℕ, false, get_or, take, vec_len, vec_capacity}
use Rattle.std.specs.Mem.Slots.{slots_filled, slots_len, slots_items}
use Rattle.std.specs.Mem.Slots.Ownership.{Filled}
use Rattle.vm_board.specs.Values.{values}
use Rattle.vm_board.proofs.closing.gather.Given as goal

abbrev pub invariant-loop-i : goal.invariant-loop-i
invariant-loop-i g l = (l.room.items ≡ values (take l.i (slots_items l.initial.closed.slots))) × (vec_len l.room ≤ l.i) × (slots_len l.initial.closed.slots ≤ vec_capacity l.room)
    × (slots_items l.closed.slots ≡ slots_items l.initial.closed.slots) × (slots_len l.closed.slots ≡ slots_len l.initial.closed.slots)
    × Filled (slots_filled l.closed.slots) l.i (slots_len l.closed.slots) × ((k : ℕ) → k < l.i → get_or (slots_filled l.closed.slots) k false ≡ false)
