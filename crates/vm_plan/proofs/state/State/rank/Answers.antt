use Rattle.std.proofs.Common.{ap, sym}
use Rattle.vm_plan.specs.State.{rank}
use Rattle.vm_plan.proofs.state.State.rank.Goals as goal

pub returns-in-Soft : goal.returns-in-Soft
returns-in-Soft c = ap rank (sym c.in-Soft.is)
