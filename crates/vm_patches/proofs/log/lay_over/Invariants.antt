use Rattle.std.proofs.Common.{◌≡◌, ℕ, ◌+◌, List, length, take, slice_range}
use Rattle.vm_patches.specs.Patches.{patched}
use Rattle.vm_patches.specs.Runs.{total, writes_in}
use Rattle.vm_patches.proofs.log.lay_over.Given as goal

abbrev pub invariant-loop-run : goal.invariant-loop-run
invariant-loop-run l = record {
  count : length l.bytes ≡ length l.initial.bytes;
  at : l.at ≡ total (take l.run-index l.runs);
  laid : (page : List ℕ) → length page ≡ 4096 → l.initial.bytes ≡ slice_range page l.offset (l.offset + length l.initial.bytes)
      → l.bytes ≡ slice_range (patched page (writes_in (take l.run-index l.runs) l.written)) l.offset (l.offset + length l.initial.bytes);
}
