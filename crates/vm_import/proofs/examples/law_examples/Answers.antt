use Rattle.std.proofs.Common.{refl}
use Rattle.vm_import.specs.Touches.{touches_of}
use Rattle.vm_import.specs.WorkingSets.{working_set}
use Rattle.vm_import.proofs.examples.law_examples.Goals as goal

pub returns : goal.returns
unfolding working_set touches_of
returns c = record { first = refl; ranks = refl; write = refl; two = refl; modify = refl; interval = refl; last = refl }
