use Rattle.std.proofs.Common.{◌≡◌, ◌+◌, ◌++◌, length, take}
use Rattle.vm_patches.specs.Patches.{writes_of}
use Rattle.vm_patches.proofs.patch.add_writes.Given as goal

abbrev pub invariant-loop-i : goal.invariant-loop-i
invariant-loop-i l = record {
  whole : length l.writes ≡ 12;
  added : take (l.len + l.i) l.writes ≡ take l.len l.initial.writes ++ writes_of l.offset (take l.i l.bytes);
}
