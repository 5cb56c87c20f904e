use Rattle.std.proofs.Common.{◌<◌, length, arith}
use Rattle.std.proofs.lemmas.Int.Digits.{digits_value_more}
use Rattle.vm_trace.proofs.Numbers.{number_tiny, digits_more, IsDecimal-small}
use Rattle.vm_trace.proofs.plain.number_alone.Goals as goal

pub overflow_mul-number : goal.overflow_mul-number
overflow_mul-number c =
    let invariant = c.loop-place.invariant in
    let few = c.if-text-gt-LAST_DIGITS.false in
    let inside = c.loop-place-test.true in
    let small = number_tiny c.args.text.now c.loop-place.place (omega arith) (omega arith) invariant.digits in
    let value = invariant.value in
    omega arith

pub overflow_add-number : goal.overflow_add-number
overflow_add-number c =
    let invariant = c.loop-place.invariant in
    let few = c.if-text-gt-LAST_DIGITS.false in
    let inside = c.loop-place-test.true in
    let small = number_tiny c.args.text.now c.loop-place.place (omega arith) (omega arith) invariant.digits in
    let value = invariant.value in
    let digit = IsDecimal-small _ _ c.in_ok-digit.ensures in
    omega arith

pub loop-place-preserved : goal.loop-place-preserved
loop-place-preserved c =
    let invariant = c.loop-place.invariant in
    let text = c.args.text.now in
    let place = c.loop-place.place in
    let inside : place < length text = c.loop-place-test.true in
    let value = invariant.value in
    let digit = c.in_ok-digit.ensures.value in
    record {
      digits = digits_more text place inside invariant.digits c.in_ok-digit.ensures.digit;
      value = omega (arith, value, digit, digits_value_more 10 text place inside);
    }
