use Rattle.std.proofs.Common.{arith}
use Rattle.vm_drawing.proofs.area.Area.down.Goals as goal

pub returns-clause-value : goal.returns-clause-value
returns-clause-value c = let high = c.y_of.ensures in omega arith

pub returns-clause-within : goal.returns-clause-within
returns-clause-within c = omega arith
