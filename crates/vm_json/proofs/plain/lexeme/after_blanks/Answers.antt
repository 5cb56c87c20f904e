use Rattle.std.proofs.Common.{◌≡◌, drop, ap, ◌∙◌}
use Rattle.std.specs.List.{prefix_len}
use Rattle.json.specs.Lex.{between, lex}
use Rattle.json.specs.Word.{is_space}
use Rattle.vm_json.proofs.LexemeLemmas.{blanks_end, lex-blanks}
use Rattle.vm_json.proofs.plain.lexeme.after_blanks.Goals as goal

pub range_from-requires : goal.range_from-requires
range_from-requires c some =
    blanks_end c.args.text.now c.blank_len.result c.utf8.text (c.blank_len.ensures ∙ ap (prefix_len is_space) c.as_bytes-bytes.ensures.value)

pub returns-clause-lexemes : goal.returns-clause-lexemes
returns-clause-lexemes c =
    let text = c.args.text.now in
    let is : c.blank_len.result ≡ prefix_len is_space text = c.blank_len.ensures ∙ ap (prefix_len is_space) c.as_bytes-bytes.ensures.value in
    ap (lex between) (c.range_from.ensures.value ∙ ap (λ k. drop k text) is) ∙ lex-blanks text
