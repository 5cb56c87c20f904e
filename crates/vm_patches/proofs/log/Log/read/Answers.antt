use Rattle.std.proofs.Common.{◌+◌, length, slice_range, sym, ap, ◌∙◌}
use Rattle.vm_patches.specs.Patches.{patched, zero_bytes}
use Rattle.vm_patches.specs.Runs.{writes_in}
use Rattle.vm_patches.proofs.Zeros.{length-zero_bytes, zeros-range}
use Rattle.vm_patches.proofs.log.Log.read.Goals as goal

pub returns : goal.returns
returns c =
    let offset = c.args.offset in
    let size = length c.args.bytes.now in
    let zeros = c.fill.ensures.after (λ y h. h) ∙ zeros-range offset size c.requires in
    c.lay_over.ensures zero_bytes length-zero_bytes (zeros ∙ ap (λ k. slice_range zero_bytes offset (offset + k)) (sym c.fill.ensures.len))
    ∙ ap (λ k. slice_range (patched zero_bytes (writes_in c.parts.result.0.now c.parts.result.1.now)) offset (offset + k)) c.fill.ensures.len
    ∙ ap (λ ws. slice_range (patched zero_bytes ws) offset (offset + size)) c.parts.ensures.is
