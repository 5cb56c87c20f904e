use Rattle.std.proofs.Common.{length, ◌∙◌, arith}
use Rattle.vm_patches.proofs.Masks.{masked-range}
use Rattle.vm_patches.proofs.lines.read_lines.Goals as goal

pub returns : goal.returns
returns c =
    masked-range c.args.lines.now c.args.page.now c.copy_from_slice.new.self c.mask.new.bytes c.args.offset (length c.args.bytes.now)
    c.told-page c.requires c.copy_from_slice.ensures.after (c.mask.ensures.length ∙ c.copy_from_slice.ensures.len)
    (λ i below. c.mask.ensures.each i (omega (arith, below, c.copy_from_slice.ensures.len)))
