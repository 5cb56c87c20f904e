use Rattle.std.proofs.Common.{◌≡◌, take}
use Rattle.vm_patches.specs.Patches.{patched, zero_bytes}
use Rattle.vm_patches.proofs.patched_frame.write_all.Given as goal

abbrev pub invariant-loop-write : goal.invariant-loop-write
invariant-loop-write l = l.page ≡ record l.initial.page { bytes = patched zero_bytes (take l.write-index l.writes) }
