use Rattle.std.proofs.Common.{arith}
use Rattle.vm_guest.proofs.allotment.more_reserve.Goals as goal

pub returns-clause-exact : goal.returns-clause-exact
returns-clause-exact c = c.saturating_sub.ensures

pub returns-clause-lowered : goal.returns-clause-lowered
returns-clause-lowered c = λ least_min few is. omega (arith, c.saturating_sub.ensures, few, is, c.requires)
