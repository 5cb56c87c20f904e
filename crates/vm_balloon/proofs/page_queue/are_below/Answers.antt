use Rattle.std.proofs.Common.{◌≤◌, length, get_or, subst, arith}
use Rattle.std.specs.Prelude.{◌<◌, All, nat_lt}
use Rattle.std.proofs.lemmas.Bool.{and_parts, ltb-true, OnTrue_from}
use Rattle.std.proofs.lemmas.List.{take_all}
use Rattle.std.proofs.lemmas.List.Elements.{All-more}
use Rattle.vm_balloon.proofs.page_queue.are_below.Goals as goal

pub loop-number-preserved : goal.loop-number-preserved
loop-number-preserved c = λ e.
    let number = get_or c.args.numbers.now c.loop-number.number-index 0 in
    let both = and_parts c.loop-number.below (nat_lt number c.args.size) e in
    All-more (λ n. n < c.args.size) c.args.numbers.now c.loop-number.number-index 0 c.loop-number-test.true (c.loop-number.invariant both.0)
    (ltb-true number c.args.size both.1)

pub returns : goal.returns
returns c =
    let past : length c.args.numbers.now ≤ c.loop-number.number-index = omega arith in
    OnTrue_from c.loop-number.below (All (λ n. n < c.args.size) c.args.numbers.now)
    (λ e. subst (λ ns. All (λ n. n < c.args.size) ns) (take_all c.loop-number.number-index c.args.numbers.now past) (c.loop-number.invariant e))
