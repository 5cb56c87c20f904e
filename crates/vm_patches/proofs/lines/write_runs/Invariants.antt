use Rattle.std.proofs.Common.{◌≡◌, take}
use Rattle.vm_patches.specs.Lines.{masked}
use Rattle.vm_patches.specs.Patches.{patched}
use Rattle.vm_patches.specs.Runs.{total, writes_in}
use Rattle.vm_patches.proofs.lines.write_runs.Given as goal

abbrev pub invariant-loop-run : goal.invariant-loop-run
invariant-loop-run l = record {
  at : l.at ≡ total (take l.run-index l.runs);
  brought : masked l.lines l.page ≡ patched (masked l.initial.lines l.initial.page) (writes_in (take l.run-index l.runs) l.written);
}
