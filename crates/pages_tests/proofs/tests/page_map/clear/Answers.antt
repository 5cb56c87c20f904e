use Rattle.std.proofs.Common.{length, ap, ◌∙◌}
use Rattle.std.proofs.lemmas.List.{length-replicate}
use Rattle.pages_tests.proofs.tests.page_map.clear.Goals as goal

pub returns : goal.returns
returns g c = ap length c.clear.ensures ∙ length-replicate _ _ ∙ c.requires
