use Rattle.std.proofs.Common.{arith, ap, ◌∙◌, ◌+◌}
use Rattle.std.proofs.lemmas.List.{take_all}
use Rattle.std.specs.Str.Parse.{digits_value}
use Rattle.vm_samples.proofs.Digits.{number_more, number_part}
use Rattle.vm_samples.proofs.number.value_of.Goals as goal

pub returns-in_err-checked_mul : goal.returns-in_err-checked_mul
returns-in_err-checked_mul c =
    let more = number_more c.args.digits.now c.loop-digit.digit-index c.requires c.loop-digit-test.true in
    let part = number_part c.args.digits.now (c.loop-digit.digit-index + 1) in
    let so_far = c.loop-digit.invariant.1 in
    rw c.from_residual.ensures (λ small. c.in_err-checked_mul.ensures (omega arith))

pub returns-in_err-value : goal.returns-in_err-value
returns-in_err-value c =
    let more = number_more c.args.digits.now c.loop-digit.digit-index c.requires c.loop-digit-test.true in
    let part = number_part c.args.digits.now (c.loop-digit.digit-index + 1) in
    let so_far = c.loop-digit.invariant.1 in
    let tens = c.in_ok-checked_mul.ensures.1 in
    let digit = c.from.ensures in
    rw c.from_residual-in_err-value.ensures (λ small. c.in_err-value.ensures (omega arith))

pub loop-digit-preserved : goal.loop-digit-preserved
loop-digit-preserved c =
    let more = number_more c.args.digits.now c.loop-digit.digit-index c.requires c.loop-digit-test.true in
    let so_far = c.loop-digit.invariant.1 in
    let tens = c.in_ok-checked_mul.ensures.1 in
    let digit = c.from.ensures in
    let sum = c.in_ok-value.ensures in
    (omega arith, omega arith)

pub returns : goal.returns
returns c =
    let whole = c.loop-digit.invariant.1 ∙ ap (digits_value 10) (take_all c.loop-digit.digit-index c.args.digits.now c.loop-digit-test.false) in
    let small = c.loop-digit.invariant.0 in
    (omega arith, whole)
