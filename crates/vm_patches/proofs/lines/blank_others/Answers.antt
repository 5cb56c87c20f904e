use Rattle.std.proofs.Common.{◌≡◌, ℕ, ◌+◌, ◌/◌, ◌∙◌, cond, get_or, ap, arith}
use Rattle.vm_patches.specs.Lines.{is_marked}
use Rattle.vm_patches.proofs.Masks.{masked-is}
use Rattle.vm_patches.proofs.lines.blank_others.Goals as goal

pub returns : goal.returns
returns c =
    masked-is c.args.lines.now c.args.page.now c.mask.new.bytes (c.mask.ensures.length ∙ c.told-page)
    (λ i below.
    let same : 0 + i ≡ i = omega arith in
    c.mask.ensures.each i (omega (arith, below, c.told-page)) ∙ ap (λ (j : ℕ). cond (is_marked c.args.lines.now (j / 64)) (get_or c.args.page.now i 0) 0) same)
