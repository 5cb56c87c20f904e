use Rattle.std.proofs.Common.{◌≡◌, ◌-◌, ◌<◌, length, take, get_or, ◌∷◌, sym, ap, ap₂, ◌∙◌, arith}
use Rattle.std.proofs.lemmas.Str.{IsCharBoundary-after_ascii}
use Rattle.std.specs.Str.{IsUtf8}
use Rattle.std.specs.List.{prefix_len}
use Rattle.json.specs.Lex.{between, lex, token}
use Rattle.json.specs.Run.{is_plain}
use Rattle.json.specs.Token.{string}
use Rattle.vm_json.proofs.LexemeLemmas.{lex-text}
use Rattle.vm_json.proofs.plain.lexeme.text_at.Goals as goal

pub range_from-requires : goal.range_from-requires
range_from-requires c some =
    let inside = c.in_ok-inside.inside.now in
    let same = c.as_bytes-bytes.ensures.value in
    let n = c.plain_len-len.result in
    let utf8 : IsUtf8 inside = rw (← same) c.as_bytes-bytes.ensures.utf8 in
    let quote : get_or inside n 0 ≡ 34 = ap (λ t. get_or t n 0) (sym same) ∙ c.if-bytes-len-eq34.true in
    let within : n < length inside = rw (← same) c.if-len-bytes.true in
    IsCharBoundary-after_ascii inside n utf8 within (omega (arith, quote))

pub returns-then-bytes-len-eq34-clause-lexemes : goal.returns-then-bytes-len-eq34-clause-lexemes
returns-then-bytes-len-eq34-clause-lexemes c =
    let inside = c.in_ok-inside.inside.now in
    let same = c.as_bytes-bytes.ensures.value in
    let n = c.plain_len-len.result in
    let is : n ≡ prefix_len is_plain inside = c.plain_len-len.ensures ∙ ap (prefix_len is_plain) same in
    let quote : get_or inside n 0 ≡ 34 = ap (λ t. get_or t n 0) (sym same) ∙ c.if-bytes-len-eq34.true in
    let within : n < length inside = rw (← same) c.if-len-bytes.true in
    let whole : n - 0 ≡ n = omega arith in
    ap (lex between) c.in_ok-inside.ensures ∙ lex-text inside n is within quote
    ∙ ap₂ (λ found ls. token (string found) ∷ ls) (sym (c.range.ensures.value ∙ ap (λ k. take k inside) whole)) (sym (c.after_blanks-left.ensures.lexemes ∙ ap (lex between) c.range_from.ensures.value))
