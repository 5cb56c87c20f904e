use Rattle.std.proofs.Common.{◌≡◌, drop, option_and_then, sym, subst, ap, ◌∙◌}
use Rattle.json.specs.Word.{after_exponent, after_fraction, after_number, after_whole}
use Rattle.vm_json.specs.Plain.{Leaves}
use Rattle.vm_json.proofs.plain.number.number_end.Goals as goal

pub returns : goal.returns
unfolding after_number
returns c =
    let bytes = c.args.bytes.now in
    let point : option_and_then after_fraction (after_whole (drop c.minus_end.result bytes)) ≡ after_fraction (drop c.in_ok-point.point bytes) = ap (option_and_then after_fraction) c.in_ok-point.ensures.0 in
    let letter = c.in_ok-letter.ensures.0 in
    let parts : after_number bytes ≡ after_exponent (drop c.in_ok-letter.letter bytes) =
    ap (λ t. option_and_then after_exponent (option_and_then after_fraction (after_whole t))) (sym c.minus_end.ensures.value) ∙ ap (option_and_then after_exponent) (point ∙ letter) in
    subst (Leaves bytes c.exponent.result) (sym parts) c.exponent.ensures
