use Rattle.std.proofs.Common.{ap, refl}
use Rattle.vm_sweep.specs.Orders.{shape_of}
use Rattle.vm_sweep.proofs.rounds.own_place.Goals as goal

pub returns : goal.returns
returns c = record {
  shape = ap shape_of c.in_ok-seen.ensures;
  config = λ v w alike. refl;
}
