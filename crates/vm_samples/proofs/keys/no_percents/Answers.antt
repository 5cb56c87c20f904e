use Rattle.std.proofs.Common.{sym, ◌∙◌}
use Rattle.std.proofs.lemmas.Bool.{eqb-false}
use Rattle.vm_samples.proofs.ValueLemmas.{texts_no_percents}
use Rattle.vm_samples.proofs.keys.no_percents.Goals as goal

pub returns-else-is_empty : goal.returns-else-is_empty
returns-else-is_empty c = texts_no_percents c.args.texts.now 10000 (eqb-false _ _ (sym c.is_empty.ensures ∙ c.if-is_empty.false))
