use Rattle.std.proofs.Common.{◌≡◌, refl, Some, slice_get, unwrap_or, ap, sym, ◌∙◌}
use Rattle.vm_trace.specs.declared.step.Action.TheVariants.{Idle}
use Rattle.vm_trace.specs.Entries.{action_at, bytes_of}
use Rattle.vm_trace.specs.Kinds.{with_bytes}
use Rattle.vm_trace.proofs.Kept.{on_none}
use Rattle.vm_trace.proofs.Found.{read_at, none_at}
use Rattle.vm_trace.proofs.trace.Trace.counted_kind.Goals as goal

pub returns-in_err-part-clause-none : goal.returns-in_err-part-clause-none
returns-in_err-part-clause-none c =
    on_none c.from_residual.result _
    (ap (λ steps. slice_get steps c.args.place) (sym c.self.view_is)
    ∙ none_at c.self.inside.bytes.items c.self.inside.entries.items c.self.inside.steps c.args.place c.self.invariant c.in_err-part.ensures.none)

pub kind_of-requires : goal.kind_of-requires
kind_of-requires c =
    (read_at c.self.inside.bytes.items c.self.inside.bytes.items c.self.inside.entries.items c.as_slice.result.now c.self.inside.steps c.args.place c.in_ok-part.part refl c.as_slice.ensures.value c.in_ok-part.ensures.some c.self.invariant).page

pub returns-clause-some : goal.returns-clause-some
returns-clause-some c =
    let bytes = c.self.inside.bytes.items in
    let part = c.in_ok-part.part in
    let there : slice_get c.args.self.now c.args.place ≡ Some (action_at bytes part.item part.before) =
    ap (λ steps. slice_get steps c.args.place) (sym c.self.view_is)
    ∙ (read_at bytes bytes c.self.inside.entries.items c.as_slice.result.now c.self.inside.steps c.args.place part refl c.as_slice.ensures.value c.in_ok-part.ensures.some c.self.invariant).step in
    there ∙ ap Some (c.kind_of.ensures bytes) ∙ ap (λ found. Some (with_bytes c.kind_of.result (bytes_of (unwrap_or found Idle)))) (sym there)
