use Rattle.std.proofs.Common.{◌≡◌, [], length, option_and_then, sym, ap, ◌∙◌, arith}
use Rattle.std.proofs.lemmas.Bool.{eqb-true}
use Rattle.std.proofs.lemmas.List.{drop_all}
use Rattle.json.specs.Json.{if_last, value}
use Rattle.json.specs.Lex.{between, fresh, lex, punctuate}
use Rattle.vm_json.specs.Tree.{value_view}
use Rattle.vm_json.proofs.LexemeLemmas.{lex-nil}
use Rattle.vm_json.proofs.PlainLemmas.{whole_given}
use Rattle.vm_json.proofs.plain.whole_value.Goals as goal

pub returns-then-is_empty : goal.returns-then-is_empty
returns-then-is_empty c =
    let depth = c.args.depth in
    let left = c.in_ok-value.left.now in
    let none : length left ≡ 0 = eqb-true _ 0 (sym c.is_empty.ensures ∙ c.if-is_empty.true) in
    let is : left ≡ [] = drop_all 0 left (omega (arith, none)) in
    let whole = whole_given depth c.after_blanks.result.now left (value_view c.in_ok-value.value) c.in_ok-value.ensures.value (ap (lex between) is ∙ lex-nil) in
    ap (option_and_then (λ p. if_last p.0 p.1)) (ap (λ ls. value depth (punctuate fresh ls)) (sym c.after_blanks.ensures.lexemes) ∙ whole)
