use Rattle.std.proofs.Common.{◌<◌, length, refl, ap, sym, ◌∙◌, arith, is_some, vec_capacity}
use Rattle.std.proofs.lemmas.Option.{some_pair_parts}
use Rattle.vm_swap.specs.Slots.{entries_of}
use Rattle.vm_swap.proofs.Kept.{found_at, absent_at, slot_read, length-entries_of, hands_over_sets, handed_values, kept_handed, length-write}
use Rattle.vm_swap.proofs.table.trade_bytes.Goals as goal

pub index_mut-requires : goal.index_mut-requires
index_mut-requires c =
    let at = sym c.find.ensures ∙ c.in-Some.is in
    let found = found_at (entries_of c.table.inside.slots.items) c.table.inside.index c.args.page c.in-Some.slot c.table.invariant at in
    omega (arith, found.within, length-entries_of c.table.inside.slots.items, c.table.inside.slots.ok.0)

pub overflow_cast-slot : goal.overflow_cast-slot
overflow_cast-slot c =
    let at = sym c.find.ensures ∙ c.in-Some.is in
    let found = found_at (entries_of c.table.inside.slots.items) c.table.inside.index c.args.page c.in-Some.slot c.table.invariant at in
    omega (arith, found.within, c.table.invariant.few)

pub forget-requires : goal.forget-requires
forget-requires c =
    let at = sym c.find.ensures ∙ c.in-Some.is in
    let found = found_at (entries_of c.table.inside.slots.items) c.table.inside.index c.args.page c.in-Some.slot c.table.invariant at in
    omega (arith, found.noted, c.table.invariant.places)

pub note-requires-clause-slot_in_range : goal.note-requires-clause-slot_in_range
note-requires-clause-slot_in_range c =
    let at = sym c.find.ensures ∙ c.in-Some.is in
    let found = found_at (entries_of c.table.inside.slots.items) c.table.inside.index c.args.page c.in-Some.slot c.table.invariant at in
    omega (arith, found.within, c.table.invariant.few)

pub invariant_of-table : goal.invariant_of-table
invariant_of-table c =
    let index = c.table.inside.index in
    let at = sym c.find.ensures ∙ c.in-Some.is in
    let found = found_at (entries_of c.table.inside.slots.items) index c.args.page c.in-Some.slot c.table.invariant at in
    let small : c.args.other < length index = let places = c.table.invariant.places in let within = c.requires.in_range in omega arith in
    kept_handed c.table.inside.slots.items _ index _ c.args.page c.args.other c.in-Some.slot c.args.frame.now.bytes c.table.invariant at (rw (← c.table.view_is) at c.requires.absent)
    (rw c.rewrite.ensures.slot refl)
    (hands_over_sets index _ _ c.args.page c.args.other c.in-Some.slot found.noted small c.forget.ensures c.note.ensures)
    (length-write _ _ c.args.other _ c.note.ensures ∙ length-write index _ c.args.page _ c.forget.ensures)

pub returns-in-Some-clause-found : goal.returns-in-Some-clause-found
returns-in-Some-clause-found c =
    let at = sym c.find.ensures ∙ c.in-Some.is in
    let found = found_at (entries_of c.table.inside.slots.items) c.table.inside.index c.args.page c.in-Some.slot c.table.invariant at in
    rw (← c.table.view_is) (sym (ap is_some found.has))

pub returns-in-Some-clause-traded : goal.returns-in-Some-clause-traded
returns-in-Some-clause-traded c =
    let at = sym c.find.ensures ∙ c.in-Some.is in
    let found = found_at (entries_of c.table.inside.slots.items) c.table.inside.index c.args.page c.in-Some.slot c.table.invariant at in
    let small : c.args.other < length c.table.inside.index = let places = c.table.invariant.places in let within = c.requires.in_range in omega arith in
    let values = handed_values c.table.inside.slots.items _ c.table.inside.index _ c.args.page c.args.other c.in-Some.slot c.args.frame.now.bytes c.table.invariant at (rw (← c.table.view_is) at c.requires.absent)
    (rw c.rewrite.ensures.slot refl)
    (hands_over_sets c.table.inside.index _ _ c.args.page c.args.other c.in-Some.slot found.noted small c.forget.ensures c.note.ensures) in
    rw (← c.table.view_is) (λ i. record { values = values i; room = vec_capacity c.table.inside.slots })

pub returns-in-Some-clause-frame : goal.returns-in-Some-clause-frame
returns-in-Some-clause-frame c =
    let at = sym c.find.ensures ∙ c.in-Some.is in
    let found = found_at (entries_of c.table.inside.slots.items) c.table.inside.index c.args.page c.in-Some.slot c.table.invariant at in
    let read = slot_read c.table.inside.slots.items c.in-Some.slot c.index_mut.result.now (omega (arith, found.within, length-entries_of c.table.inside.slots.items)) c.index_mut.ensures.value in
    let bytes = (some_pair_parts _ _ _ _ (sym read ∙ found.entry)).1 in
    rw (← c.table.view_is, found.has) (c.rewrite.ensures.frame ∙ (λ i. record { number = c.args.frame.now.number; bytes = bytes i }))

pub returns-in-None-clause-found : goal.returns-in-None-clause-found
returns-in-None-clause-found c =
    let at = sym c.find.ensures ∙ c.in-None.is in
    rw (← c.table.view_is) (sym (ap is_some (absent_at (entries_of c.table.inside.slots.items) _ c.args.page c.table.invariant at)))

pub returns-in-None-clause-frame : goal.returns-in-None-clause-frame
returns-in-None-clause-frame c =
    let at = sym c.find.ensures ∙ c.in-None.is in
    rw (← c.table.view_is, absent_at (entries_of c.table.inside.slots.items) _ c.args.page c.table.invariant at) tt
