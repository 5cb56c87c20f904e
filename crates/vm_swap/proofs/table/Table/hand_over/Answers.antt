use Rattle.std.proofs.Common.{◌<◌, length, Some, refl, ap, sym, ◌∙◌, arith, vec_capacity}
use Rattle.std.proofs.lemmas.Option.{some_pair_parts}
use Rattle.vm_swap.specs.Slots.{entries_of}
use Rattle.vm_swap.proofs.Kept.{found_at, absent_at, slot_read, length-entries_of, hands_over_sets, handed_values, kept_handed, length-write}
use Rattle.vm_swap.proofs.table.Table.hand_over.Goals as goal

pub index_mut-requires : goal.index_mut-requires
index_mut-requires g c =
    let at = sym c.find.ensures ∙ c.in-Some.is in
    let found = found_at (entries_of c.self.inside.slots.items) c.self.inside.index c.args.page c.in-Some.slot c.self.invariant at in
    omega (arith, found.within, length-entries_of c.self.inside.slots.items, c.self.inside.slots.ok.0)

pub overflow_cast-slot : goal.overflow_cast-slot
overflow_cast-slot g c =
    let at = sym c.find.ensures ∙ c.in-Some.is in
    let found = found_at (entries_of c.self.inside.slots.items) c.self.inside.index c.args.page c.in-Some.slot c.self.invariant at in
    omega (arith, found.within, c.self.invariant.few)

pub forget-requires : goal.forget-requires
forget-requires g c =
    let at = sym c.find.ensures ∙ c.in-Some.is in
    let found = found_at (entries_of c.self.inside.slots.items) c.self.inside.index c.args.page c.in-Some.slot c.self.invariant at in
    omega (arith, found.noted, c.self.invariant.places)

pub note-requires-clause-slot_in_range : goal.note-requires-clause-slot_in_range
note-requires-clause-slot_in_range g c =
    let at = sym c.find.ensures ∙ c.in-Some.is in
    let found = found_at (entries_of c.self.inside.slots.items) c.self.inside.index c.args.page c.in-Some.slot c.self.invariant at in
    omega (arith, found.within, c.self.invariant.few)

pub invariant_of-self : goal.invariant_of-self
invariant_of-self g c =
    let index = c.self.inside.index in
    let at = sym c.find.ensures ∙ c.in-Some.is in
    let found = found_at (entries_of c.self.inside.slots.items) index c.args.page c.in-Some.slot c.self.invariant at in
    let small : c.args.other < length index = let places = c.self.invariant.places in let within = c.requires.in_range in omega arith in
    kept_handed c.self.inside.slots.items _ index _ c.args.page c.args.other c.in-Some.slot c.args.value c.self.invariant at (rw (← c.self.view_is) at c.requires.absent)
    (rw c.replace-value.ensures.after refl)
    (hands_over_sets index _ _ c.args.page c.args.other c.in-Some.slot found.noted small c.forget.ensures c.note.ensures)
    (length-write _ _ c.args.other _ c.note.ensures ∙ length-write index _ c.args.page _ c.forget.ensures)

pub returns-in-Some-clause-taken : goal.returns-in-Some-clause-taken
returns-in-Some-clause-taken g c =
    let at = sym c.find.ensures ∙ c.in-Some.is in
    let found = found_at (entries_of c.self.inside.slots.items) c.self.inside.index c.args.page c.in-Some.slot c.self.invariant at in
    let read = slot_read c.self.inside.slots.items c.in-Some.slot c.index_mut.result.now (omega (arith, found.within, length-entries_of c.self.inside.slots.items)) c.index_mut.ensures.value in
    rw (← c.self.view_is, c.replace-value.ensures.value) (found.has ∙ ap Some (sym (some_pair_parts _ _ _ _ (sym read ∙ found.entry)).1))

pub returns-in-Some-clause-given : goal.returns-in-Some-clause-given
returns-in-Some-clause-given g c =
    let at = sym c.find.ensures ∙ c.in-Some.is in
    let found = found_at (entries_of c.self.inside.slots.items) c.self.inside.index c.args.page c.in-Some.slot c.self.invariant at in
    let small : c.args.other < length c.self.inside.index = let places = c.self.invariant.places in let within = c.requires.in_range in omega arith in
    let values = handed_values c.self.inside.slots.items _ c.self.inside.index _ c.args.page c.args.other c.in-Some.slot c.args.value c.self.invariant at (rw (← c.self.view_is) at c.requires.absent)
    (rw c.replace-value.ensures.after refl)
    (hands_over_sets c.self.inside.index _ _ c.args.page c.args.other c.in-Some.slot found.noted small c.forget.ensures c.note.ensures) in
    rw (← c.self.view_is) (λ i. record { values = values i; room = vec_capacity c.self.inside.slots })

pub returns-in-None-clause-absent : goal.returns-in-None-clause-absent
returns-in-None-clause-absent g c =
    let at = sym c.find.ensures ∙ c.in-None.is in
    rw (← c.self.view_is) (absent_at (entries_of c.self.inside.slots.items) _ c.args.page c.self.invariant at)
