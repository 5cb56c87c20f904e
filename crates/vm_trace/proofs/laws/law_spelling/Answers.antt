use Rattle.vm_trace.proofs.ReadIsSpelled.{spelled-step_within, spelled-steps_within}
use Rattle.vm_trace.proofs.SpelledIsRead.{step_within-spelled, steps_within-spelled}
use Rattle.vm_trace.proofs.laws.law_spelling.Goals as goal

pub returns-clause-steps : goal.returns-clause-steps
returns-clause-steps c = λ limits text steps some. (spelled-steps_within limits text steps some, steps_within-spelled limits text steps)

pub returns-clause-step : goal.returns-clause-step
returns-clause-step c = λ pages text step some. (spelled-step_within pages text step some, step_within-spelled pages text step)
