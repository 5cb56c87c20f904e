use Rattle.std.proofs.Common.{ℕ, replicate, inl, inr, ap, ◌∙◌, ◌+◌, ◌*◌, ◌≤◌, ◌⊎◌, length, arith}
use Rattle.std.proofs.lemmas.Bool.{cases_lt}
use borrow.Rule.Slice.PartMut.{mid_len}
use Rattle.vm_patches.proofs.Masks.{blanked}
use Rattle.vm_patches.proofs.lines.blank.Goals as goal

pub returns-clause-each : goal.returns-clause-each
returns-clause-each c =
    let start = c.saturating_sub-start.result in
    let end = c.min-end.result in
    let bytes = c.args.bytes.now in
    let from = c.saturating_sub-start.ensures in
    let to = c.min-end.ensures in
    let fits : end ≤ length bytes = omega (arith, to) in
    let whole : (c.args.line * 64 + 64 ≤ c.args.offset + end) ⊎ (length bytes ≤ end) =
    elim (cases_lt end (length bytes)) [
      | inl less ↦ inl (omega (arith, to, less, c.requires.after))
      | inr all ↦ inr all
    ] in
    blanked bytes c.fill.new.self c.args.line c.args.offset start end from
    (c.fill.ensures.after (λ y h. h) ∙ ap (λ (n : ℕ). replicate n 0) (mid_len start end bytes fits))
    (omega (arith, from, to, c.requires.before, c.requires.after)) fits whole (omega (arith, to)) c.requires.after
