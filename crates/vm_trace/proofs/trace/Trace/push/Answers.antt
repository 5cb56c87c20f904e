use Rattle.std.proofs.Common.{◌++◌, ◌∷◌, [], ap, ◌∙◌}
use Rattle.vm_trace.specs.Entries.{bytes_of, steps_of}
use Rattle.vm_trace.proofs.Kept.{trace_after, trace_push, steps_after, steps_more, on_err}
use Rattle.vm_trace.proofs.trace.Trace.push.Goals as goal

pub invariant_of-self-in_err-push : goal.invariant_of-self-in_err-push
invariant_of-self-in_err-push c =
    rw c.in_err-push.ensures.items
    (trace_after c.self.inside.bytes.items (bytes_of c.action.result) c.item_of.new.store.items c.self.inside.entries.items c.self.inside.steps c.in_ok-item.ensures.ok c.self.invariant)

pub returns-in_err-push-clause-err : goal.returns-in_err-push-clause-err
returns-in_err-push-clause-err c =
    on_err c.from_residual-in_err-push.result _
    (ap (steps_of c.item_of.new.store.items) c.in_err-push.ensures.items
    ∙ steps_after c.self.inside.bytes.items (bytes_of c.action.result) c.item_of.new.store.items c.self.inside.entries.items c.self.inside.steps c.in_ok-item.ensures.ok c.self.invariant
    ∙ c.self.view_is)

pub invariant_of-self-2 : goal.invariant_of-self-2
invariant_of-self-2 c =
    let trace = trace_after c.self.inside.bytes.items (bytes_of c.action.result) c.item_of.new.store.items c.self.inside.entries.items c.self.inside.steps c.in_ok-item.ensures.ok c.self.invariant in
    rw c.in_ok-push.ensures.items
    (trace_push c.item_of.new.store.items c.self.inside.entries.items c.self.inside.steps c.in_ok-all.all c.in_ok-item.item c.action.result trace c.in_ok-item.ensures.item c.action.ensures.limits c.in_ok-all.ensures)

pub returns-clause-ok : goal.returns-clause-ok
returns-clause-ok c =
    let new = c.item_of.new.store.items in
    let entries = c.self.inside.entries.items in
    ap (steps_of new) c.in_ok-push.ensures.items
    ∙ steps_more new entries (record { first = c.self.inside.steps; item = c.in_ok-item.item })
    ∙ ap (λ steps. steps_of new entries ++ steps) c.in_ok-item.ensures.item.same
    ∙ ap (λ steps. steps ++ c.action.result ∷ []) (steps_after c.self.inside.bytes.items (bytes_of c.action.result) new entries c.self.inside.steps c.in_ok-item.ensures.ok c.self.invariant ∙ c.self.view_is)
    ∙ ap (λ step. c.args.self.now ++ step ∷ []) c.action.ensures.same
