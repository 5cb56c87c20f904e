use Rattle.std.proofs.Common.{[], None, ap, arith, subst, sym}
use Rattle.std.proofs.lemmas.Result.{IfOk-from_err}
use Rattle.vm_import.specs.BlockSteps.{IsCounted}
use Rattle.vm_import.specs.Waiting.{Waiting}
use Rattle.vm_import.proofs.BlockStepLemmas.{at}
use Rattle.vm_import.proofs.reader.LogReader.new.Goals as goal

none_counted : IsCounted [] 0 0
none_counted = record { counted = omega arith; small = omega arith }

pub invariant_of-result : goal.invariant_of-result
invariant_of-result c = subst (λ (w : Waiting). IsCounted w.bytes w.taken 0) (sym c.in_ok-new.ensures) none_counted

pub returns : goal.returns
returns c = ap (λ (w : Waiting). at w.bytes w.taken 0 None) c.in_ok-new.ensures

pub returns-in_err-new : goal.returns-in_err-new
returns-in_err-new c = IfOk-from_err c.from_residual.result _ c.from_residual.ensures.0
