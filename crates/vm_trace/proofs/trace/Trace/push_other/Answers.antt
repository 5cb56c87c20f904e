use Rattle.std.proofs.Common.{◌++◌, ap, refl, ◌∙◌}
use Rattle.vm_trace.specs.Entries.{action_at, bytes_of, steps_at, steps_of}
use Rattle.vm_trace.proofs.Kept.{trace_after, trace_more, steps_after, steps_more}
use Rattle.vm_trace.proofs.Rows.{trace_full, trace_few}
use Rattle.vm_trace.proofs.trace.Trace.push_other.Goals as goal

pub invariant_of-self-in_default : goal.invariant_of-self-in_default
invariant_of-self-in_default c =
    let entered = c.in_ok-item.ensures.item in
    let new = c.item_of_text.new.store.items in
    let i = c.in_ok-item.item in
    trace_after c.self.inside.bytes.items (bytes_of (action_at new i 0)) new c.self.inside.entries.items c.self.inside.steps entered.added c.self.invariant

pub returns-in_default-clause-fault : goal.returns-in_default-clause-fault
returns-in_default-clause-fault c = λ fault same.
    let entered = c.in_ok-item.ensures.item in
    let new = c.item_of_text.new.store.items in
    let i = c.in_ok-item.item in
    trace_full c.args.limits c.args.size c.args.text.now c.self.inside.bytes.items new c.self.inside.entries.items c.self.inside.steps c.args.self.now i c.self.invariant c.self.view_is entered.read c.in_default.ensures.none
    ∙ (let z = same in cc)

pub returns-in_default-clause-err : goal.returns-in_default-clause-err
returns-in_default-clause-err c =
    let entered = c.in_ok-item.ensures.item in
    let new = c.item_of_text.new.store.items in
    let i = c.in_ok-item.item in
    steps_after c.self.inside.bytes.items (bytes_of (action_at new i 0)) new c.self.inside.entries.items c.self.inside.steps entered.added c.self.invariant ∙ c.self.view_is

pub invariant_of-self-in_default-push : goal.invariant_of-self-in_default-push
invariant_of-self-in_default-push c =
    let entered = c.in_ok-item.ensures.item in
    let new = c.item_of_text.new.store.items in
    let i = c.in_ok-item.item in
    rw c.in_default-push.ensures.items (trace_after c.self.inside.bytes.items (bytes_of (action_at new i 0)) new c.self.inside.entries.items c.self.inside.steps entered.added c.self.invariant)

pub returns-in_default-push-clause-err : goal.returns-in_default-push-clause-err
returns-in_default-push-clause-err c =
    let entered = c.in_ok-item.ensures.item in
    let new = c.item_of_text.new.store.items in
    let i = c.in_ok-item.item in
    ap (steps_of new) c.in_default-push.ensures.items ∙ steps_after c.self.inside.bytes.items (bytes_of (action_at new i 0)) new c.self.inside.entries.items c.self.inside.steps entered.added c.self.invariant ∙ c.self.view_is

pub invariant_of-self-2 : goal.invariant_of-self-2
invariant_of-self-2 c =
    let entered = c.in_ok-item.ensures.item in
    let new = c.item_of_text.new.store.items in
    let i = c.in_ok-item.item in
    rw c.in-Ok.ensures.items
    (trace_more new c.self.inside.entries.items c.self.inside.steps c.in-Some.all (record { first = c.self.inside.steps; item = i }) (trace_after c.self.inside.bytes.items (bytes_of (action_at new i 0)) new c.self.inside.entries.items c.self.inside.steps entered.added c.self.invariant) refl c.in-Some.ensures.some entered.some entered.within entered.bounded)

pub returns-clause-ok : goal.returns-clause-ok
returns-clause-ok c =
    let entered = c.in_ok-item.ensures.item in
    let new = c.item_of_text.new.store.items in
    let i = c.in_ok-item.item in
    record {
      steps = steps_at new i;
      read = entered.read;
      within = entered.pages;
      bounded = entered.bounded;
      few = trace_few c.self.inside.bytes.items new c.self.inside.entries.items c.self.inside.steps c.in-Some.all c.args.self.now i c.self.invariant c.self.view_is c.in-Some.ensures.some c.in-Some.ensures.few;
      added =
          ap (steps_of new) c.in-Ok.ensures.items
          ∙ steps_more new c.self.inside.entries.items (record { first = c.self.inside.steps; item = i })
          ∙ ap (λ steps. steps ++ steps_at new i) (steps_after c.self.inside.bytes.items (bytes_of (action_at new i 0)) new c.self.inside.entries.items c.self.inside.steps entered.added c.self.invariant ∙ c.self.view_is);
    }
