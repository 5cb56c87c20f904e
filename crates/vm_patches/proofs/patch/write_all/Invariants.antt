use Rattle.std.proofs.Common.{◌≡◌, take}
use Rattle.vm_patches.specs.Patches.{patched}
use Rattle.vm_patches.proofs.patch.write_all.Given as goal

abbrev pub invariant-loop-write : goal.invariant-loop-write
invariant-loop-write l = l.page ≡ patched l.initial.page (take l.write-index l.writes)
