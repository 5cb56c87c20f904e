use Rattle.std.proofs.Common.{subst}
use Rattle.vm_sweep.specs.Combinations.{Allows}
use Rattle.vm_sweep.specs.declared.variant.Looped.{Looped}
use Rattle.vm_sweep.proofs.variant.Variant.set.Goals as goal

pub with-self-requires : goal.with-self-requires
with-self-requires c = subst (λ (what : Looped). Allows what c.args.value) c.in-Machine.is c.requires

pub set_percent-requires : goal.set_percent-requires
set_percent-requires c = subst (λ (what : Looped). Allows what c.args.value) c.in-Percent.is c.requires
