use Rattle.std.proofs.Common.{◌≡◌, length, take, sym, ap, ◌∙◌, arith}
use Rattle.vm_patches.specs.Runs.{total}
use Rattle.vm_patches.proofs.Runs.{length-writes_in}
use Rattle.vm_patches.proofs.log.Log.to_patch.Goals as goal

pub returns-then-from-gt-PATCH_BYTES : goal.returns-then-from-gt-PATCH_BYTES
returns-then-from-gt-PATCH_BYTES c =
    let m = c.self.inside in
    let log = c.self.invariant in
    let written = length-writes_in (take m.count m.runs) m.bytes (omega (arith, log.counted, log.short)) in
    let same = ap length c.self.view_is in
    λ room. omega (arith, room, written, same, log.counted)

pub returns : goal.returns
returns c =
    let size : total c.parts.result.0.now ≡ length c.args.self.now = sym (length-writes_in c.parts.result.0.now c.parts.result.1.now c.parts.ensures.counted) ∙ ap length c.parts.ensures.is in
    rw (size, c.parts.ensures.is) at c.patch_of.ensures
