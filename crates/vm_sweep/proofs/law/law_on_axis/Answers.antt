use Rattle.vm_sweep.proofs.SweepLemmas.{places_on_axis}
use Rattle.vm_sweep.proofs.law.law_on_axis.Goals as goal

pub returns : goal.returns
returns c points curves curve rise inside = places_on_axis points curves curve rise inside
