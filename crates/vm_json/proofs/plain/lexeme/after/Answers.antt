use Rattle.std.proofs.Common.{◌∷◌, sym, ap, ◌∙◌}
use Rattle.json.specs.Lex.{between, lex, operator_lexeme}
use Rattle.vm_json.proofs.LexemeLemmas.{lex-operator, operator_is_ascii}
use Rattle.vm_json.proofs.plain.lexeme.after.Goals as goal

pub after_byte-requires : goal.after_byte-requires
after_byte-requires c = operator_is_ascii c.args.operator c.requires

pub returns-clause-lexemes : goal.returns-clause-lexemes
returns-clause-lexemes c =
    let behind = c.in_ok-behind.behind.now in
    ap (lex between) c.in_ok-behind.ensures ∙ lex-operator c.args.operator behind c.requires ∙ ap (λ ls. operator_lexeme c.args.operator ∷ ls) (sym c.after_blanks.ensures.lexemes)
