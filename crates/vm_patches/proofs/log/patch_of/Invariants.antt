use Rattle.std.proofs.Common.{◌≡◌, ◌≤◌, take}
use Rattle.vm_patches.specs.Runs.{total, writes_in}
use Rattle.vm_patches.proofs.log.patch_of.Given as goal

abbrev pub invariant-loop-run : goal.invariant-loop-run
invariant-loop-run l = record {
  at : l.at ≡ total (take l.run-index l.runs);
  room : total (take l.run-index l.runs) ≤ 12;
  brought : l.patch ≡ writes_in (take l.run-index l.runs) l.written;
}
