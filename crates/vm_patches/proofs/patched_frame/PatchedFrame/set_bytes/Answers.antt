use Rattle.std.proofs.Common.{refl}
use Rattle.vm_patches.proofs.patched_frame.PatchedFrame.set_bytes.Goals as goal

pub returns : goal.returns
returns c = rw (← c.self.view_is) refl
