use Rattle.std.proofs.Common.{◌≡◌, ℕ, ◌+◌, ◌/◌, ◌<◌, ◌≤◌, if◌then◌else◌, length, slice_index}
use Rattle.vm_patches.specs.Lines.{is_marked}
use Rattle.vm_patches.proofs.lines.mask.Given as goal

abbrev pub invariant-loop-line : goal.invariant-loop-line
invariant-loop-line l = record {
  count : length l.bytes ≡ length l.initial.bytes;
  passed : (i : ℕ) → i < length l.initial.bytes → (l.offset + i) / 64 < l.line → slice_index l.bytes i ≡ (if is_marked l.lines ((l.offset + i) / 64) then slice_index l.initial.bytes i else 0);
  left : (i : ℕ) → i < length l.initial.bytes → l.line ≤ (l.offset + i) / 64 → slice_index l.bytes i ≡ slice_index l.initial.bytes i;
}
