use Rattle.std.proofs.Common.{◌≡◌, ℕ, List, ◌∙◌}
use Rattle.vm_frames.specs.Frame.{FrameView}
use Rattle.vm_patches.specs.declared.patch.ByteWrite.{ByteWrite}
use Rattle.vm_patches.specs.Patches.{patched, zero_bytes}
use Rattle.vm_patches.proofs.patched_frame.PatchedFrame.set_patch.Goals as goal

-- the writes that were brought to the page are all that there are
with_all : (new : FrameView) (number : ℕ) (writes all : List ByteWrite) → ◌≡◌ {A = FrameView} new (record { number = number; bytes = patched zero_bytes writes }) → writes ≡ all
    → ◌≡◌ {A = FrameView} new (record { number = number; bytes = patched zero_bytes all })
with_all new number writes all is same = is ∙ (λ i. record { number = number; bytes = patched zero_bytes (same i) })

pub returns : goal.returns
returns c = rw (← c.self.view_is) (search with_all)
