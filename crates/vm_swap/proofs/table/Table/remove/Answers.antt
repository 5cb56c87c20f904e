use Rattle.std.proofs.Common.{Some, ap, sym, ◌∙◌, arith, ◌-◌, vec_capacity}
use Rattle.std.proofs.lemmas.Option.{some_pair_parts}
use Rattle.vm_swap.specs.Slots.{entries_of}
use Rattle.vm_swap.proofs.Absent.{remove-absent}
use Rattle.vm_swap.proofs.Kept.{found_at, absent_at, slot_read, last_page, page_inside, forgets_sets, forgotten_values, kept_forgotten, length-write, length-entries_of}
use Rattle.vm_swap.proofs.table.Table.remove.Goals as goal

pub overflow_sub-len : goal.overflow_sub-len
overflow_sub-len g c =
    let at = sym c.find.ensures ∙ c.in-Some.is in
    let found = found_at (entries_of c.self.inside.slots.items) c.self.inside.index c.args.page c.in-Some.slot c.self.invariant at in
    omega (arith, found.within, length-entries_of c.self.inside.slots.items, c.self.inside.slots.ok.0)

pub index-requires : goal.index-requires
index-requires g c =
    let at = sym c.find.ensures ∙ c.in-Some.is in
    let found = found_at (entries_of c.self.inside.slots.items) c.self.inside.index c.args.page c.in-Some.slot c.self.invariant at in
    omega (arith, found.within, length-entries_of c.self.inside.slots.items, c.self.inside.slots.ok.0)

pub swap_remove-value-requires : goal.swap_remove-value-requires
swap_remove-value-requires g c =
    let at = sym c.find.ensures ∙ c.in-Some.is in
    let found = found_at (entries_of c.self.inside.slots.items) c.self.inside.index c.args.page c.in-Some.slot c.self.invariant at in
    omega (arith, found.within, length-entries_of c.self.inside.slots.items, c.self.inside.slots.ok.0)

pub overflow_cast-slot : goal.overflow_cast-slot
overflow_cast-slot g c =
    let at = sym c.find.ensures ∙ c.in-Some.is in
    let found = found_at (entries_of c.self.inside.slots.items) c.self.inside.index c.args.page c.in-Some.slot c.self.invariant at in
    omega (arith, found.within, c.self.invariant.few)

pub note-requires : goal.note-requires
note-requires g c =
    let at = sym c.find.ensures ∙ c.in-Some.is in
    let found = found_at (entries_of c.self.inside.slots.items) c.self.inside.index c.args.page c.in-Some.slot c.self.invariant at in
    let end = last_page c.self.inside.slots.items (c.len.result - 1) c.index.result.now (omega (arith, found.within, length-entries_of c.self.inside.slots.items, c.self.inside.slots.ok.0)) c.index.ensures in
    let inside = page_inside (entries_of c.self.inside.slots.items) c.self.inside.index _ _ c.self.invariant end in
    record {
      in_range = omega (arith, inside, c.self.invariant.places);
      slot_in_range = omega (arith, found.within, c.self.invariant.few);
    }

pub forget-requires : goal.forget-requires
forget-requires g c =
    let at = sym c.find.ensures ∙ c.in-Some.is in
    let found = found_at (entries_of c.self.inside.slots.items) c.self.inside.index c.args.page c.in-Some.slot c.self.invariant at in
    omega (arith, found.noted, c.self.invariant.places)

pub invariant_of-self : goal.invariant_of-self
invariant_of-self g c =
    let at = sym c.find.ensures ∙ c.in-Some.is in
    let found = found_at (entries_of c.self.inside.slots.items) c.self.inside.index c.args.page c.in-Some.slot c.self.invariant at in
    let end = last_page c.self.inside.slots.items (c.len.result - 1) c.index.result.now (omega (arith, found.within, length-entries_of c.self.inside.slots.items, c.self.inside.slots.ok.0)) c.index.ensures in
    let inside = page_inside (entries_of c.self.inside.slots.items) c.self.inside.index _ _ c.self.invariant end in
    kept_forgotten c.self.inside.slots.items _ c.self.inside.index _ c.args.page c.in-Some.slot _ c.index.result.now c.self.invariant at end c.swap_remove-value.ensures.items
    (forgets_sets c.self.inside.index _ _ c.args.page _ c.in-Some.slot found.noted inside c.note.ensures c.forget.ensures)
    (let old = c.self.inside.slots.ok.0 in let new = c.swap_remove-value.new.self.ok.0 in let less = c.swap_remove-value.ensures.len in omega arith)
    (length-write _ _ c.args.page _ c.forget.ensures ∙ length-write c.self.inside.index _ _ _ c.note.ensures)

pub returns-in-Some-clause-taken : goal.returns-in-Some-clause-taken
returns-in-Some-clause-taken g c =
    let at = sym c.find.ensures ∙ c.in-Some.is in
    let found = found_at (entries_of c.self.inside.slots.items) c.self.inside.index c.args.page c.in-Some.slot c.self.invariant at in
    let read = slot_read c.self.inside.slots.items c.in-Some.slot c.swap_remove-value.result (omega (arith, found.within, length-entries_of c.self.inside.slots.items)) c.swap_remove-value.ensures.value in
    rw (← c.self.view_is) (ap Some (some_pair_parts _ _ _ _ (sym read ∙ found.entry)).1 ∙ sym found.has)

pub returns-in-Some-clause-removed : goal.returns-in-Some-clause-removed
returns-in-Some-clause-removed g c =
    let at = sym c.find.ensures ∙ c.in-Some.is in
    let found = found_at (entries_of c.self.inside.slots.items) c.self.inside.index c.args.page c.in-Some.slot c.self.invariant at in
    let end = last_page c.self.inside.slots.items (c.len.result - 1) c.index.result.now (omega (arith, found.within, length-entries_of c.self.inside.slots.items, c.self.inside.slots.ok.0)) c.index.ensures in
    let inside = page_inside (entries_of c.self.inside.slots.items) c.self.inside.index _ _ c.self.invariant end in
    let values = forgotten_values c.self.inside.slots.items _ c.self.inside.index _ c.args.page c.in-Some.slot _ c.index.result.now c.self.invariant at end c.swap_remove-value.ensures.items
    (forgets_sets c.self.inside.index _ _ c.args.page _ c.in-Some.slot found.noted inside c.note.ensures c.forget.ensures) in
    rw (← c.self.view_is) (λ i. record { values = values i; room = c.swap_remove-value.ensures.capacity i })

pub returns-in-None-clause-taken : goal.returns-in-None-clause-taken
returns-in-None-clause-taken g c =
    let at = sym c.find.ensures ∙ c.in-None.is in
    rw (← c.self.view_is) (sym (absent_at (entries_of c.self.inside.slots.items) _ c.args.page c.self.invariant at))

pub returns-in-None-clause-removed : goal.returns-in-None-clause-removed
returns-in-None-clause-removed g c =
    let at = sym c.find.ensures ∙ c.in-None.is in
    let gone = absent_at (entries_of c.self.inside.slots.items) _ c.args.page c.self.invariant at in
    rw (← c.self.view_is) (λ i. record { values = sym (remove-absent _ c.args.page gone) i; room = vec_capacity c.self.inside.slots })
