use Rattle.std.proofs.Common.{sym, ◌∙◌}
use Rattle.vm_lists.proofs.NumberLaws.{parse-digits_in, digits_in-small}
use Rattle.vm_lists.proofs.numbers.digits_in.Goals as goal

pub returns-clause-value : goal.returns-clause-value
returns-clause-value c =
    c.ok.ensures.value ∙ parse-digits_in c.args.most c.args.word.now c.parse.result c.requires c.if-word-most.false (sym c.if-not-is_decimal.ensures) c.parse.ensures.value.0

pub returns-clause-small : goal.returns-clause-small
returns-clause-small c =
    digits_in-small c.args.most c.args.word.now c.ok.result c.requires c.if-word-most.false (sym c.if-not-is_decimal.ensures)
    (c.ok.ensures.value ∙ parse-digits_in c.args.most c.args.word.now c.parse.result c.requires c.if-word-most.false (sym c.if-not-is_decimal.ensures) c.parse.ensures.value.0)
