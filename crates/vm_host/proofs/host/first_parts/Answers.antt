use Rattle.std.proofs.Common.{refl}
use Rattle.vm_host.proofs.host.first_parts.Goals as goal

pub returns : goal.returns
returns c = refl
