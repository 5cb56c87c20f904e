use Rattle.std.proofs.Common.{◌∙◌, ap}
use Rattle.vm_programs.specs.vmsweep.Lists.{for_key}
use Rattle.vm_programs.proofs.lemmas.vmsweep.Read.{first_fault, given-none, given-some}
use Rattle.vm_programs.proofs.vmsweep.asked.given.Goals as goal

pub returns-in_default-clause-values : goal.returns-in_default-clause-values
returns-in_default-clause-values c = given-none c.args.key c.args.request.now c.word.result.now c.word.ensures c.in_default.ensures

pub returns-in-Ok-clause-values : goal.returns-in-Ok-clause-values
returns-in-Ok-clause-values c =
    given-some c.args.key c.args.request.now c.word.result.now c.word.ensures c.in-Some.text.now c.limits.result c.limits.ensures
    c.in-Some.ensures
    ∙ ap (for_key c.args.key) c.in-Ok.ensures.values

pub returns-in-Err-clause-fault : goal.returns-in-Err-clause-fault
returns-in-Err-clause-fault c =
    first_fault c.args.key _ _ c.in-Err.fault
    (given-some c.args.key c.args.request.now c.word.result.now c.word.ensures c.in-Some.text.now c.limits.result c.limits.ensures
    c.in-Some.ensures)
    c.in-Err.ensures.fault
