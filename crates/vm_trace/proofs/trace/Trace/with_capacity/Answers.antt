use Rattle.std.proofs.Common.{◌≡◌, arith}
use Rattle.std.proofs.lemmas.Bool.{false≢true}
use Rattle.vm_trace.proofs.Kept.{on_err}
use Rattle.vm_trace.proofs.trace.Trace.with_capacity.Goals as goal

pub returns-in_err-with_capacity-clause-memory : goal.returns-in_err-with_capacity-clause-memory
returns-in_err-with_capacity-clause-memory c =
    let some : c.args.steps ≡ 0 → ⊥ = λ none. false≢true (c.in_err-with_capacity.ensures.succeeds none) in
    on_err c.from_residual.result _ (omega (arith, some))
