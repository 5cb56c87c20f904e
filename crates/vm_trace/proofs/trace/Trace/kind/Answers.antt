use Rattle.std.proofs.Common.{◌≡◌, refl, Some, slice_get, unwrap_or, ap, sym, ◌∙◌}
use Rattle.vm_trace.specs.declared.step.Action.TheVariants.{Idle}
use Rattle.vm_trace.specs.Entries.{action_at, bytes_of}
use Rattle.vm_trace.specs.Kinds.{with_bytes}
use Rattle.vm_trace.proofs.Kept.{on_none}
use Rattle.vm_trace.proofs.Found.{read_at, none_at}
use Rattle.vm_trace.proofs.trace.Trace.kind.Goals as goal

pub returns-in_err-item-clause-none : goal.returns-in_err-item-clause-none
returns-in_err-item-clause-none c =
    on_none c.from_residual.result _
    (ap (λ steps. slice_get steps c.args.place) (sym c.self.view_is)
    ∙ none_at c.self.inside.bytes.items c.self.inside.entries.items c.self.inside.steps c.args.place c.self.invariant c.in_err-item.ensures.none)

pub kind_of-requires : goal.kind_of-requires
kind_of-requires c =
    (read_at c.self.inside.bytes.items c.self.inside.bytes.items c.self.inside.entries.items c.as_slice.result.now c.self.inside.steps c.args.place (record { item = c.in_ok-item.item.now; before = 0 }) refl c.as_slice.ensures.value c.in_ok-item.ensures.some c.self.invariant).page

pub returns-clause-some : goal.returns-clause-some
returns-clause-some c =
    let bytes = c.self.inside.bytes.items in
    let item = c.in_ok-item.item.now in
    let there : slice_get c.args.self.now c.args.place ≡ Some (action_at bytes item 0) =
    ap (λ steps. slice_get steps c.args.place) (sym c.self.view_is)
    ∙ (read_at bytes bytes c.self.inside.entries.items c.as_slice.result.now c.self.inside.steps c.args.place (record { item = item; before = 0 }) refl c.as_slice.ensures.value c.in_ok-item.ensures.some c.self.invariant).step in
    there ∙ ap Some (c.kind_of.ensures bytes) ∙ ap (λ found. Some (with_bytes c.kind_of.result (bytes_of (unwrap_or found Idle)))) (sym there)
