use Rattle.std.proofs.Common.{sym, ◌∙◌}
use Rattle.std.proofs.lemmas.Bool.{eqb-false}
use Rattle.vm_config.proofs.ValueLemmas.{texts_no_percents}
use Rattle.vm_config.proofs.keys.no_percents.Goals as goal

pub returns-else-is_empty : goal.returns-else-is_empty
returns-else-is_empty c most = texts_no_percents c.args.texts.now most (eqb-false _ _ (sym c.is_empty.ensures ∙ c.if-is_empty.false))
