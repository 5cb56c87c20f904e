use Rattle.std.proofs.Common.{◌+◌, refl, arith}
use Rattle.vm_patches.proofs.Writes.{patched-next}
use Rattle.vm_patches.proofs.patch.write_all.Goals as goal

pub loop-write-preserved : goal.loop-write-preserved
loop-write-preserved c =
    let i = c.loop-write.write-index in
    let writes = c.args.writes.now in
    rw (c.from.ensures, c.loop-write.invariant, patched-next c.args.page.now writes i (i + 1) (record { offset = 0; byte = 0 }) refl (omega arith)) refl
