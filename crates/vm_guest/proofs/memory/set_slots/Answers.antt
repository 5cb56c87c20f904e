use Rattle.std.proofs.Common.{List, ℕ, ap, ◌∙◌, arith}
use Rattle.std.specs.FinMap as slots
use Rattle.std.specs.Ordering.{nat_cmp}
use Rattle.vm_guest.proofs.memory.set_slots.Goals as goal

pub lower_to-requires-clause-room : goal.lower_to-requires-clause-room
lower_to-requires-clause-room c =
    let none = ap slots.len c.requires ∙ slots.len-empty nat_cmp (List ℕ) in
    omega (arith, none)
