use Rattle.std.proofs.Common.{arith, ◌<◌, ◌+◌, ◌*◌, ◌∙◌, sym, ap, get_or, length, ℕ}
use Rattle.std.proofs.lemmas.Int.Digits.{digits_value_more, digits_more}
use Rattle.std.specs.Char.{digit_value}
use Rattle.vm_import.proofs.NumeralLemmas.{value_small}
use Rattle.vm_import.proofs.numerals.digits_in_front.Goals as goal

pub overflow_mul-value : goal.overflow_mul-value
overflow_mul-value c =
    let text = c.args.text.now in
    let place = c.loop-place.place in
    let digit : digit_value (get_or text place 0) < c.args.radix = rw c.digit_value-digit.ensures at c.if-digit-radix.false in
    let bound = value_small c.args.radix c.args.most text place c.loop-place.value c.requires.some c.requires.few (omega arith) (omega arith) c.loop-place.invariant.digits c.loop-place.invariant.value_is digit in
    rw c.from.ensures (omega (arith, bound))

pub overflow_add-value : goal.overflow_add-value
overflow_add-value c =
    let text = c.args.text.now in
    let place = c.loop-place.place in
    let digit : digit_value (get_or text place 0) < c.args.radix = rw c.digit_value-digit.ensures at c.if-digit-radix.false in
    let bound = value_small c.args.radix c.args.most text place c.loop-place.value c.requires.some c.requires.few (omega arith) (omega arith) c.loop-place.invariant.digits c.loop-place.invariant.value_is digit in
    rw (c.from.ensures, c.from-in-loop-place.ensures, c.digit_value-digit.ensures) (omega (arith, bound))

pub loop-place-preserved : goal.loop-place-preserved
loop-place-preserved c =
    let text = c.args.text.now in
    let place = c.loop-place.place in
    let inside : place < length text = omega arith in
    let digit : digit_value (get_or text place 0) < c.args.radix = rw c.digit_value-digit.ensures at c.if-digit-radix.false in
    record {
      digits = digits_more c.args.radix text place inside c.loop-place.invariant.digits digit;
      value_is = rw (c.from.ensures, c.from-in-loop-place.ensures, c.digit_value-digit.ensures)
          (ap (λ (v : ℕ). v * c.args.radix + digit_value (get_or text place 0)) c.loop-place.invariant.value_is
          ∙ sym (digits_value_more c.args.radix text place inside));
    }
