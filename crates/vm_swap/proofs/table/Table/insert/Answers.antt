use Rattle.std.proofs.Common.{◌<◌, ◌==◌, cond, length, Some, None, get_or, ap, ◌∙◌, arith}
use Rattle.vm_swap.specs.Slots.{entries_of}
use Rattle.vm_swap.proofs.Kept.{free_slot, length-entries_of, pushed_values, kept_pushed, index_noted, length-write}
use Rattle.vm_swap.proofs.table.Table.insert.Goals as goal

pub push_reserved-requires : goal.push_reserved-requires
push_reserved-requires g c =
    let none = rw (← c.self.view_is) at c.requires.absent in
    let room = rw (← c.self.view_is) at c.requires.room in
    let fits = free_slot (entries_of c.self.inside.slots.items) c.self.inside.index c.args.page c.args.value c.self.invariant none c.requires.in_range in
    omega (arith, fits, room, c.self.invariant.counted, length-entries_of c.self.inside.slots.items, c.self.inside.slots.ok.0)

pub note-requires-clause-slot_in_range : goal.note-requires-clause-slot_in_range
note-requires-clause-slot_in_range g c =
    let fits = free_slot (entries_of c.self.inside.slots.items) c.self.inside.index c.args.page c.args.value c.self.invariant (rw (← c.self.view_is) at c.requires.absent) c.requires.in_range in
    omega (arith, fits, c.len-slot.ensures, length-entries_of c.self.inside.slots.items, c.self.inside.slots.ok.0)

pub invariant_of-self : goal.invariant_of-self
invariant_of-self g c =
    let index = c.self.inside.index in
    let small : c.args.page < length index = let places = c.self.invariant.places in let within = c.requires.in_range in omega arith in
    let slot = c.len-slot.ensures ∙ c.self.inside.slots.ok.0 in
    kept_pushed c.self.inside.slots.items _ index _ _ c.self.invariant (rw (← c.self.view_is) at c.requires.absent) c.requires.in_range c.push_reserved.ensures.items
    (λ q. index_noted index _ c.args.page _ small c.note.ensures q ∙ ap (λ n. cond (q == c.args.page) (Some n) (get_or index q None)) slot)
    (length-write index _ c.args.page _ c.note.ensures)

pub returns : goal.returns
returns g c =
    let values = pushed_values c.self.inside.slots.items _ _ (rw (← c.self.view_is) at c.requires.absent) c.push_reserved.ensures.items in
    rw (← c.self.view_is) (λ i. record { values = values i; room = c.push_reserved.ensures.capacity i })
