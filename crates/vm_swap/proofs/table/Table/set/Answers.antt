use Rattle.std.proofs.Common.{is_some, sym, ap, ◌∙◌, arith, vec_capacity}
use Rattle.vm_swap.specs.Slots.{entries_of}
use Rattle.vm_swap.proofs.Kept.{found_at, absent_at, length-entries_of, written_values, kept_written}
use Rattle.vm_swap.proofs.table.Table.set.Goals as goal

pub index_mut-requires : goal.index_mut-requires
index_mut-requires g c =
    let at = sym c.find.ensures ∙ c.in-Some.is in
    let found = found_at (entries_of c.self.inside.slots.items) c.self.inside.index c.args.page c.in-Some.slot c.self.invariant at in
    omega (arith, found.within, length-entries_of c.self.inside.slots.items, c.self.inside.slots.ok.0)

pub invariant_of-self : goal.invariant_of-self
invariant_of-self g c =
    kept_written c.self.inside.slots.items _ c.args.page c.in-Some.slot c.args.value c.self.invariant (sym c.find.ensures ∙ c.in-Some.is)

pub returns-in-Some-clause-found : goal.returns-in-Some-clause-found
returns-in-Some-clause-found g c =
    let at = sym c.find.ensures ∙ c.in-Some.is in
    let found = found_at (entries_of c.self.inside.slots.items) c.self.inside.index c.args.page c.in-Some.slot c.self.invariant at in
    rw (← c.self.view_is) (sym (ap is_some found.has))

pub returns-in-Some-clause-written : goal.returns-in-Some-clause-written
returns-in-Some-clause-written g c =
    let at = sym c.find.ensures ∙ c.in-Some.is in
    let values = written_values c.self.inside.slots.items _ c.args.page c.in-Some.slot c.args.value c.self.invariant at in
    rw (← c.self.view_is) (λ i. record { values = values i; room = vec_capacity c.self.inside.slots })

pub returns-in-None-clause-found : goal.returns-in-None-clause-found
returns-in-None-clause-found g c =
    let at = sym c.find.ensures ∙ c.in-None.is in
    rw (← c.self.view_is) (sym (ap is_some (absent_at (entries_of c.self.inside.slots.items) _ c.args.page c.self.invariant at)))
