use Rattle.std.proofs.Common.{◌+◌, ◌-◌, length, set, sym, ap, ◌∙◌, arith}
use Rattle.vm_patches.proofs.Writes.{inside-window, before-window, past-window}
use Rattle.vm_patches.proofs.patch.lay.Goals as goal
use Rattle.vm_patches.proofs.patch.lay.Goals.{else-offset-at-via-then-offset-at+else-at-offset, else-offset-at-via-else-offset-at}

pub returns-then-at-offset-clause-laid : goal.returns-then-at-offset-clause-laid
returns-then-at-offset-clause-laid c =
    λ page fits is.
    let o = c.args.offset in
    let i = c.from-at.result - c.args.offset in
    ap (λ xs. set xs i c.args.write.byte) is
    ∙ sym (inside-window page o (o + length c.args.bytes.now) c.args.write.offset i c.args.write.byte
    (omega (arith, c.from-at.ensures, c.if-offset-at.true)) (omega (arith, c.if-at-offset.true)))

pub returns-else-offset-at-clause-laid : goal.returns-else-offset-at-clause-laid
returns-else-offset-at-clause-laid c =
    λ page fits is.
    let o = c.args.offset in
    let e = c.args.offset + length c.args.bytes.now in
    elim c.else-offset-at.branch [
      | else-offset-at-via-then-offset-at+else-at-offset w ↦
          is ∙ sym (past-window page o e c.args.write.offset (c.from-at.result - o) c.args.write.byte
          (omega (arith, c.from-at.ensures, w.if-offset-at.true)) (omega (arith, w.if-at-offset.false)))
      | else-offset-at-via-else-offset-at w ↦
          is ∙ sym (before-window page o e c.args.write.offset c.args.write.byte (omega (arith, c.from-at.ensures, w.if-offset-at.false)))
    ]
