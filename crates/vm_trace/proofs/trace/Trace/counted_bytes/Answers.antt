use Rattle.std.proofs.Common.{ap, sym, unwrap_or, ◌∙◌}
use Rattle.vm_trace.specs.declared.step.Action.TheVariants.{Idle}
use Rattle.vm_trace.specs.Entries.{bytes_of, steps_of}
use Rattle.vm_trace.specs.Kinds.{bytes_in}
use Rattle.vm_trace.proofs.Found.{read_at, none_at}
use Rattle.vm_trace.proofs.trace.Trace.counted_bytes.Goals as goal

pub returns-in-Some : goal.returns-in-Some
returns-in-Some c =
    let entries = c.self.inside.entries.items in
    c.bytes_of.ensures c.in-Some.part.before
    ∙ ap (λ found. bytes_of (unwrap_or found Idle))
    (sym (read_at c.self.inside.bytes.items c.as_slice-in-Some.result.now entries c.as_slice.result.now c.self.inside.steps c.args.place c.in-Some.part c.as_slice-in-Some.ensures.value c.as_slice.ensures.value c.in-Some.ensures.some c.self.invariant).step)
    ∙ ap (λ steps. bytes_in steps c.args.place) (ap (λ bytes. steps_of bytes entries) c.as_slice-in-Some.ensures.value ∙ c.self.view_is)

pub returns-in-None : goal.returns-in-None
returns-in-None c =
    ap (λ found. bytes_of (unwrap_or found Idle)) (sym (none_at c.self.inside.bytes.items c.self.inside.entries.items c.self.inside.steps c.args.place c.self.invariant c.in-None.ensures.none))
    ∙ ap (λ steps. bytes_in steps c.args.place) c.self.view_is
