use Rattle.std.proofs.Common.{◌≡◌, ◌⊎◌, ◌+◌, ◌*◌, ◌<◌, ◌≤◌, length, Ok, sym, ap, ◌∙◌, inl, inr, arith}
use Rattle.std.proofs.lemmas.Bool.{eqb-true, eqb-false}
use Rattle.std.proofs.lemmas.List.{take_all}
use Rattle.std.specs.Char.{is_ascii_digit}
use Rattle.std.specs.List.{list_all}
use Rattle.std.specs.Str.Parse.{digits_value}
use Rattle.vm_trace.proofs.Numbers.{number_of-length, number_of-no_digit, number_of-digits, number_small, digits_more, number_more}
use Rattle.vm_trace.proofs.parse.number.Goals as goal

pub returns-then-is_empty : goal.returns-then-is_empty
returns-then-is_empty c =
    let wrong : (length c.args.word.now ≡ 0) ⊎ (10 < length c.args.word.now) = elim c.then-is_empty.either [
      | inl empty ↦ inl (eqb-true _ _ (sym c.is_empty.ensures ∙ empty))
      | inr many ↦ inr many.1
    ] in
    sym (number_of-length c.args.word.now wrong)

pub returns-then-not-is_ascii_digit : goal.returns-then-not-is_ascii_digit
returns-then-not-is_ascii_digit c =
    sym (number_of-no_digit c.args.word.now c.loop-digit.digit-index c.loop-digit-test.true (sym c.if-not-is_ascii_digit.ensures.value))

pub overflow_mul-number : goal.overflow_mul-number
overflow_mul-number c =
    let small = number_small c.args.word.now c.loop-digit.digit-index c.loop-digit.auto.digit-index-end c.if-word-gt-MAX_DIGITS.false c.loop-digit.invariant.digits in
    let value = c.loop-digit.invariant.value in
    omega arith

pub overflow_add-number : goal.overflow_add-number
overflow_add-number c =
    let small = number_small c.args.word.now c.loop-digit.digit-index c.loop-digit.auto.digit-index-end c.if-word-gt-MAX_DIGITS.false c.loop-digit.invariant.digits in
    let value = c.loop-digit.invariant.value in
    let digit = c.from.ensures in
    let byte = c.type_inv.word c.loop-digit.digit-index in
    omega arith

pub loop-digit-preserved : goal.loop-digit-preserved
loop-digit-preserved c = record {
  digits = digits_more c.args.word.now c.loop-digit.digit-index c.loop-digit-test.true c.loop-digit.invariant.digits (sym c.if-not-is_ascii_digit.ensures.value);
  value = ap (λ d. 10 * c.loop-digit.number + d) c.from.ensures ∙ number_more c.args.word.now c.loop-digit.digit-index c.loop-digit.number c.loop-digit-test.true c.loop-digit.invariant.value (sym c.if-not-is_ascii_digit.ensures.value);
}

pub returns : goal.returns
returns c =
    let word = c.args.word.now in
    let all = take_all c.loop-digit.digit-index word c.loop-digit-test.false in
    let some : 1 ≤ length word = let full = eqb-false _ _ (sym c.is_empty.ensures ∙ c.if-is_empty.false) in omega arith in
    ap Ok (c.loop-digit.invariant.value ∙ ap (digits_value 10) all)
    ∙ sym (number_of-digits word some c.if-word-gt-MAX_DIGITS.false (ap (list_all is_ascii_digit) (sym all) ∙ c.loop-digit.invariant.digits))
