use Rattle.std.proofs.Common.{length, ap}
use Rattle.std.proofs.lemmas.List.{length-set}
use Rattle.parts_tests.proofs.TaxLemmas.{one_tax, tax_set}
use Rattle.parts_tests.proofs.tests.tax.set_winner.Goals as goal

pub set-requires-clause-one_tax : goal.set-requires-clause-one_tax
set-requires-clause-one_tax c = one_tax _ _ (tax_set _ _ c.args.position c.args.price c.requires.taxed c.requires.price)

pub returns-clause-length : goal.returns-clause-length
returns-clause-length c = rw c.set.ensures (length-set _ _ _)

pub returns-clause-taxed : goal.returns-clause-taxed
returns-clause-taxed c = rw c.set.ensures (tax_set _ _ c.args.position c.args.price c.requires.taxed c.requires.price)
