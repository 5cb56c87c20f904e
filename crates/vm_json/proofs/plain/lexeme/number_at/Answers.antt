use Rattle.std.proofs.Common.{◌≡◌, ◌-◌, ◌∷◌, ◌++◌, take, drop, Some, true, sym, ap, ap₂, ◌∙◌, ◌||◌, arith}
use Rattle.std.proofs.lemmas.List.{take-append-drop}
use Rattle.json.specs.Lex.{between, lex, token}
use Rattle.json.specs.Token.{number}
use Rattle.json.specs.Word.{after_number, ends_word, is_operator, is_space}
use Rattle.json.proofs.Printed.Numbers.{lex-number, number_alone}
use Rattle.vm_json.proofs.plain.lexeme.number_at.Goals as goal

pub returns-then-ends_word-clause-lexemes : goal.returns-then-ends_word-clause-lexemes
returns-then-ends_word-clause-lexemes c =
    let text = c.args.text.now in
    let same = c.as_bytes-bytes.ensures.value in
    let end = c.in_ok-end.end in
    let word = take end text in
    let rest = drop end text in
    let split : word ++ rest ≡ text = take-append-drop end text in
    let ended : ends_word rest ≡ true = ap (λ t. ends_word (drop end t)) (sym same) ∙ sym (ap (λ b. is_operator b || is_space b) c.byte_at.ensures) ∙ sym c.ends_word.ensures ∙ c.if-ends_word.true in
    let read : after_number text ≡ Some rest = ap after_number (sym same) ∙ c.in_ok-end.ensures.0 ∙ ap (λ t. Some (drop end t)) same in
    let alone = number_alone word rest ended (ap after_number split ∙ read) in
    let whole : end - 0 ≡ end = omega arith in
    ap (lex between) (sym split) ∙ lex-number word rest alone ended
    ∙ ap₂ (λ found ls. token (number found) ∷ ls) (sym (c.range.ensures.value ∙ ap (λ k. take k text) whole)) (sym (c.after_blanks-left.ensures.lexemes ∙ ap (lex between) c.range_from.ensures.value))
