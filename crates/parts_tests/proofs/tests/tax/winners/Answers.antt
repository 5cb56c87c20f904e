use Rattle.parts_tests.proofs.TaxLemmas.{one_tax}
use Rattle.parts_tests.proofs.tests.tax.winners.Goals as goal

pub new-requires-clause-one_tax : goal.new-requires-clause-one_tax
new-requires-clause-one_tax g c = one_tax _ _ c.requires.taxed
