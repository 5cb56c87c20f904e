use Rattle.std.proofs.Common.{Some, slice_get, ap, sym, ◌∙◌, subst}
use Rattle.vm_trace.specs.Entries.{steps_of}
use Rattle.vm_trace.specs.Limits.{IsStep}
use Rattle.vm_trace.proofs.Found.{read_at, none_at}
use Rattle.vm_trace.proofs.trace.Trace.step.Goals as goal

pub returns-in_err-part-clause-step : goal.returns-in_err-part-clause-step
returns-in_err-part-clause-step c =
    c.from_residual.ensures
    ∙ sym (none_at c.self.inside.bytes.items c.self.inside.entries.items c.self.inside.steps c.args.place c.self.invariant c.in_err-part.ensures.none)
    ∙ ap (λ steps. slice_get steps c.args.place) c.self.view_is

pub action_at-requires-clause-within : goal.action_at-requires-clause-within
action_at-requires-clause-within c =
    (read_at c.self.inside.bytes.items c.as_slice-2.result.now c.self.inside.entries.items c.as_slice.result.now c.self.inside.steps c.args.place c.in_ok-part.part c.as_slice-2.ensures.value c.as_slice.ensures.value c.in_ok-part.ensures.some c.self.invariant).within

pub action_at-requires-clause-few : goal.action_at-requires-clause-few
action_at-requires-clause-few c =
    (read_at c.self.inside.bytes.items c.as_slice-2.result.now c.self.inside.entries.items c.as_slice.result.now c.self.inside.steps c.args.place c.in_ok-part.part c.as_slice-2.ensures.value c.as_slice.ensures.value c.in_ok-part.ensures.some c.self.invariant).limits.bytes

pub action_at-requires-clause-page : goal.action_at-requires-clause-page
action_at-requires-clause-page c =
    (read_at c.self.inside.bytes.items c.as_slice-2.result.now c.self.inside.entries.items c.as_slice.result.now c.self.inside.steps c.args.place c.in_ok-part.part c.as_slice-2.ensures.value c.as_slice.ensures.value c.in_ok-part.ensures.some c.self.invariant).page

pub new-requires : goal.new-requires
new-requires c =
    subst IsStep (sym c.action_at.ensures)
    (read_at c.self.inside.bytes.items c.as_slice-2.result.now c.self.inside.entries.items c.as_slice.result.now c.self.inside.steps c.args.place c.in_ok-part.part c.as_slice-2.ensures.value c.as_slice.ensures.value c.in_ok-part.ensures.some c.self.invariant).limits

pub returns-clause-step : goal.returns-clause-step
returns-clause-step c =
    ap Some (c.new.ensures ∙ c.action_at.ensures)
    ∙ sym (read_at c.self.inside.bytes.items c.as_slice-2.result.now c.self.inside.entries.items c.as_slice.result.now c.self.inside.steps c.args.place c.in_ok-part.part c.as_slice-2.ensures.value c.as_slice.ensures.value c.in_ok-part.ensures.some c.self.invariant).step
    ∙ ap (λ steps. slice_get steps c.args.place) (ap (λ bytes. steps_of bytes c.self.inside.entries.items) c.as_slice-2.ensures.value ∙ c.self.view_is)
