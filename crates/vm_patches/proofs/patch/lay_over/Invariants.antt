use Rattle.std.proofs.Common.{◌≡◌, ℕ, ◌+◌, ◌≤◌, List, length, take, slice_range}
use Rattle.vm_patches.specs.Patches.{patched}
use Rattle.vm_patches.proofs.patch.lay_over.Given as goal

abbrev pub invariant-loop-write : goal.invariant-loop-write
invariant-loop-write l = record {
  count : length l.bytes ≡ length l.initial.bytes;
  laid : (page : List ℕ) → l.offset + length l.initial.bytes ≤ length page → l.initial.bytes ≡ slice_range page l.offset (l.offset + length l.initial.bytes) → l.bytes ≡ slice_range (patched page (take l.write-index l.writes)) l.offset (l.offset + length l.initial.bytes);
}
