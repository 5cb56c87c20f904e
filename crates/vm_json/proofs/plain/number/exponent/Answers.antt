use Rattle.std.proofs.Common.{◌≡◌, ◌||◌, ◌==◌, cond, drop, Some, true, sym, subst, ap, ◌∙◌}
use Rattle.std.proofs.lemmas.List.{drop-drop}
use Rattle.json.specs.Word.{after_digits, after_exponent, after_sign, head}
use Rattle.vm_json.specs.Plain.{Leaves}
use Rattle.vm_json.proofs.plain.number.exponent.Goals as goal

pub returns-then-begins_exponent : goal.returns-then-begins_exponent
returns-then-begins_exponent c =
    let bytes = c.args.bytes.now in
    let t = drop c.args.from bytes in
    let letter : ((head t == 101) || (head t == 69)) ≡ true = ap (λ b. (b == 101) || (b == 69)) (sym c.byte_at.ensures) ∙ sym c.begins_exponent.ensures ∙ c.if-begins_exponent.true in
    let is : after_exponent t ≡ after_digits (drop c.sign_end.result bytes) =
    ap (λ b. cond b (after_digits (after_sign (drop 1 t))) (Some t)) letter ∙ ap (λ u. after_digits (after_sign u)) (drop-drop 1 c.args.from bytes) ∙ ap after_digits (sym c.sign_end.ensures.value) in
    subst (Leaves bytes c.digits.result) (sym is) c.digits.ensures
