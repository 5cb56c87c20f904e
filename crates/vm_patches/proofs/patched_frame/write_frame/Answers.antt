use Rattle.std.proofs.Common.{◌≡◌, ap, ◌∙◌}
use Rattle.vm_patches.specs.Lines.{masked}
use Rattle.vm_patches.specs.Patches.{overwritten, patched, zero_bytes}
use Rattle.vm_patches.proofs.Masks.{masked-none}
use Rattle.vm_patches.proofs.patched_frame.write_frame.Goals as goal

pub returns-in-Few : goal.returns-in-Few
returns-in-Few c =
    let few = c.in-Few.few in
    let blank : masked c.new-lines.result c.args.page.now ≡ zero_bytes = rw c.new-lines.ensures (masked-none c.args.page.now) in
    let brought : masked c.write_each.new.lines c.write_each.new.page ≡ patched zero_bytes few = c.write_each.ensures ∙ ap (λ page. patched page few) blank in
    rw c.in-Few.is (c.write_lines.ensures ∙ ap (λ page. overwritten page c.args.offset c.args.bytes.now) brought)
