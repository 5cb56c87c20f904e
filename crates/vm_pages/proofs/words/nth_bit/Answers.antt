use Rattle.std.proofs.Common.{◌-◌, ◌/◌, ◌%◌, ◌^◌, ap, ◌∙◌, arith}
use Rattle.vm_pages.proofs.BitLemmas.{halved, is_half}
use Rattle.vm_pages.proofs.words.nth_bit.Goals as goal

pub loop-level-preserved-then-left-lower : goal.loop-level-preserved-then-left-lower
loop-level-preserved-then-left-lower c =
    let invariant = c.loop-level.invariant in
    let half = is_half c.loop-level.level (omega arith) invariant.few in
    let parts = halved c.args.word c.loop-level.place (2 ^ (c.loop-level.level - 1)) c.loop-level.rest (invariant.rest ∙ ap (λ n. c.args.word / 2 ^ c.loop-level.place % 2 ^ n) half.twice) in
    let few = rw (half.shifted, half.mask) at c.if-left-lower.true in
    rw (half.shifted, half.mask) record {
      few = omega (arith, invariant.few);
      inside = omega (arith, invariant.inside, half.twice);
      rest = parts.low;
      within = few;
      before = invariant.before;
    }

pub loop-level-preserved : goal.loop-level-preserved
loop-level-preserved c =
    let invariant = c.loop-level.invariant in
    let half = is_half c.loop-level.level (omega arith) invariant.few in
    let parts = halved c.args.word c.loop-level.place (2 ^ (c.loop-level.level - 1)) c.loop-level.rest (invariant.rest ∙ ap (λ n. c.args.word / 2 ^ c.loop-level.place % 2 ^ n) half.twice) in
    let many = rw (half.shifted, half.mask) at c.if-left-lower.false in
    rw (half.shifted, half.mask) record {
      few = omega (arith, invariant.few);
      inside = omega (arith, invariant.inside, half.twice);
      rest = parts.high;
      within = omega (arith, invariant.within, parts.parts, many);
      before = omega (arith, invariant.before, parts.before, many);
    }
