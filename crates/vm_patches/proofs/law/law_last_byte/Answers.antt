use Rattle.vm_patches.proofs.LastBytes.{at-patched}
use Rattle.vm_patches.proofs.law.law_last_byte.Goals as goal

pub returns : goal.returns
returns c = at-patched
