use Rattle.std.proofs.Common.{refl}
use Rattle.vm_domains.proofs.domains.Domains.from_parts.Goals as goal

pub returns : goal.returns
returns c = refl
