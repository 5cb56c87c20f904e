use Rattle.std.proofs.Common.{refl}
use Rattle.vm_plan.proofs.moves.Moves.of.Goals as goal

pub invariant_of-result : goal.invariant_of-result
invariant_of-result c = c.requires

pub returns : goal.returns
returns c = refl
