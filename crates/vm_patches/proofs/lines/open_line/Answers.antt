use Rattle.std.proofs.Common.{ℕ, ◌*◌, ◌+◌, replicate, sym, ap, ◌∙◌, arith}
use borrow.Rule.Slice.PartMut.{mid_len}
use Rattle.vm_patches.proofs.Masks.{masked-opened}
use Rattle.vm_patches.proofs.lines.open_line.Goals as goal

pub returns-then-not-contains-clause-same : goal.returns-then-not-contains-clause-same
returns-then-not-contains-clause-same c =
    let start = c.args.line * 64 in
    masked-opened c.args.lines.now c.insert.new.self c.args.page.now c.fill.new.self c.args.line _
    c.told-page c.requires (sym (c.if-not-contains.ensures)) c.insert.ensures.marked c.insert.ensures.others
    (c.fill.ensures.after (λ y h. h) ∙ ap (λ (n : ℕ). replicate n 0) (mid_len start (start + 64) c.args.page.now (omega (arith, c.told-page, c.requires)))) (omega arith)
