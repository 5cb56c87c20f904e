use Rattle.std.proofs.Common.{◌≡◌, ◌+◌, ◌<◌, ◌∷◌, [], take, get_or, refl, sym, ap, ◌∙◌, arith}
use Rattle.vm_patches.specs.declared.patch.ByteWrite.{ByteWrite}
use Rattle.vm_patches.specs.Patches.{overwritten, patched, zero_bytes}
use Rattle.vm_patches.proofs.Writes.{length-patched, overwritten-one, patched-next}
use Rattle.vm_patches.proofs.Zeros.{length-zero_bytes}
use Rattle.vm_patches.proofs.patched_frame.write_all.Goals as goal

pub loop-write-preserved : goal.loop-write-preserved
loop-write-preserved c =
    let i = c.loop-write.write-index in
    let writes = c.args.writes.now in
    let write : ByteWrite = get_or writes i (record { offset = 0; byte = 0 }) in
    let before = patched zero_bytes (take i writes) in
    let below : write.offset < 4096 = c.requires.within i (record { offset = 0; byte = 0 }) (omega arith) in
    let at : overwritten before c.from.result (write.byte ∷ []) ≡ overwritten before write.offset (write.byte ∷ []) = ap (λ o. overwritten before o (write.byte ∷ [])) c.from.ensures in
    let bytes =
    at
    ∙ overwritten-one before write.offset write.byte (omega (arith, below, length-patched zero_bytes (take i writes), length-zero_bytes))
    ∙ sym (patched-next zero_bytes writes i (i + 1) (record { offset = 0; byte = 0 }) refl (omega arith)) in
    c.write.ensures ∙ rw c.loop-write.invariant (λ k. record { number = c.args.page.now.number; bytes = bytes k })
