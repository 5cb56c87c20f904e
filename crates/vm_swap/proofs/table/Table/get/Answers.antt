use Rattle.std.proofs.Common.{Some, sym, ap, ◌∙◌, arith}
use Rattle.std.proofs.lemmas.Option.{some_pair_parts}
use Rattle.vm_swap.specs.Slots.{entries_of}
use Rattle.vm_swap.proofs.Kept.{found_at, absent_at, slot_read, length-entries_of}
use Rattle.vm_swap.proofs.table.Table.get.Goals as goal

pub index-requires : goal.index-requires
index-requires g c =
    let at = sym c.find.ensures ∙ c.in-Some.is in
    let found = found_at (entries_of c.self.inside.slots.items) c.self.inside.index c.args.page c.in-Some.slot c.self.invariant at in
    omega (arith, found.within, length-entries_of c.self.inside.slots.items, c.self.inside.slots.ok.0)

pub returns-in-Some : goal.returns-in-Some
returns-in-Some g c =
    let at = sym c.find.ensures ∙ c.in-Some.is in
    let found = found_at (entries_of c.self.inside.slots.items) c.self.inside.index c.args.page c.in-Some.slot c.self.invariant at in
    let read = slot_read c.self.inside.slots.items c.in-Some.slot c.index.result.now (omega (arith, found.within, length-entries_of c.self.inside.slots.items)) c.index.ensures in
    rw (← c.self.view_is) (ap Some (some_pair_parts _ _ _ _ (sym read ∙ found.entry)).1 ∙ sym found.has)

pub returns-in-None : goal.returns-in-None
returns-in-None g c =
    let at = sym c.find.ensures ∙ c.in-None.is in
    rw (← c.self.view_is) (sym (absent_at (entries_of c.self.inside.slots.items) _ c.args.page c.self.invariant at))
