use Rattle.std.proofs.Common.{ap, ◌∙◌, arith}
use Rattle.vm_patches.specs.Patches.{overwritten}
use Rattle.vm_patches.proofs.Masks.{masked-overwritten}
use Rattle.vm_patches.proofs.lines.write_lines.Goals as goal

pub returns : goal.returns
returns c =
    let o = c.args.offset in
    let bytes = c.args.bytes.now in
    let same = c.copy_from_slice.ensures.after in
    rw same
    (masked-overwritten c.open_lines.new.lines c.open_lines.new.page bytes o _ c.div_ceil.result
    c.open_lines.array_long (omega arith) (omega (arith, c.requires)) (omega (arith, c.div_ceil.ensures)) c.open_lines.ensures.marked
    ∙ ap (λ page. overwritten page o bytes) c.open_lines.ensures.same)
