use Rattle.std.proofs.Common.{sym, ◌∙◌}
use Rattle.std.proofs.lemmas.Bool.{eqb-true, eq-eqb}
use Rattle.vm_trace.proofs.Kept.{trace_empty, empty_trace}
use Rattle.vm_trace.proofs.trace.Trace.is_empty.Goals as goal

pub returns : goal.returns
returns c =
    let bytes = c.self.inside.bytes.items in
    let entries = c.self.inside.entries.items in (
      (λ zero. sym c.self.view_is ∙ trace_empty bytes entries c.self.inside.steps c.self.invariant (eqb-true _ _ zero)),
      (λ none. eq-eqb _ _ (empty_trace bytes entries c.self.inside.steps c.self.invariant (c.self.view_is ∙ none))),
    )
