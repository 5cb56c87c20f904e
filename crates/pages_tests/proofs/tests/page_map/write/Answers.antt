use Rattle.std.proofs.Common.{length, ap, ◌∙◌}
use Rattle.std.proofs.lemmas.List.{length-set}
use Rattle.pages_tests.proofs.tests.page_map.write.Goals as goal

pub returns : goal.returns
returns g c = ap length c.write.ensures ∙ length-set _ _ _ ∙ c.requires.size
