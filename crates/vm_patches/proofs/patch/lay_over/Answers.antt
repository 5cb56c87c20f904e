use Rattle.std.proofs.Common.{◌+◌, take, ◌∙◌, arith, refl}
use Rattle.std.proofs.lemmas.List.{take_all}
use Rattle.vm_patches.specs.Patches.{patched}
use Rattle.vm_patches.proofs.Writes.{length-patched, patched-next}
use Rattle.vm_patches.proofs.patch.lay_over.Goals as goal

pub loop-write-preserved : goal.loop-write-preserved
loop-write-preserved c =
    let i = c.loop-write.write-index in
    let writes = c.args.writes.now in
    let size = c.loop-write.invariant.count in
    record {
      count = c.lay.ensures.length ∙ size;
      laid = λ page fits is.
          let before = patched page (take i writes) in
          let next = c.lay.ensures.laid before (omega (arith, fits, size, length-patched page (take i writes))) (rw size (c.loop-write.invariant.laid page fits is)) in
          rw (patched-next page writes i (i + 1) (record { offset = 0; byte = 0 }) refl (omega arith)) (rw size at next);
    }

pub returns : goal.returns
returns c =
    λ page fits is.
    let whole = take_all c.loop-write.write-index c.args.writes.now (omega arith) in
    rw whole at (c.loop-write.invariant.laid page fits is)
