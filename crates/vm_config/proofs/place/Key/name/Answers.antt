use Rattle.std.proofs.Common.{sym, ap}
use Rattle.vm_config.specs.Places.{name_of}
use Rattle.vm_config.proofs.place.Key.name.Goals as goal

pub returns-in-PageRate : goal.returns-in-PageRate
returns-in-PageRate c = sym (ap name_of c.in-PageRate.is)
