use Rattle.std.proofs.Common.{ap, sym}
use Rattle.vm_plan.specs.State.{state_word}
use Rattle.vm_plan.proofs.state.State.as_str.Goals as goal

pub returns-in-Low-clause-word : goal.returns-in-Low-clause-word
returns-in-Low-clause-word c = ap state_word (sym c.in-Low.is)
