use Rattle.std.proofs.Common.{subst, sym}
use Rattle.vm_plan.specs.Growth.{AreCounted}
use Rattle.vm_plan.proofs.StretchLemmas.{joined_counted}
use Rattle.vm_plan.proofs.plan.Plan.moves.Goals as goal

pub of-requires : goal.of-requires
of-requires c = subst AreCounted (sym c.deref.ensures.value) (joined_counted c.self.inside.stretches.items c.self.invariant)
