use Rattle.std.proofs.Common.{sym, ◌∙◌}
use Rattle.std.proofs.lemmas.Bool.{eqb-false}
use Rattle.vm_json.proofs.ViewLemmas.{text_first}
use Rattle.vm_json.proofs.find.if_none.Goals as goal

pub returns-else-is_empty-clause-none : goal.returns-else-is_empty-clause-none
returns-else-is_empty-clause-none c never = text_first c.args.texts.now (eqb-false _ _ (sym c.is_empty.ensures ∙ c.if-is_empty.false))
